-- What the noise of two full operators answers, refusals first in their order: 0, 4, 5 for the value, 6 at a step, and 5 for what is held at the end.
-- Document 01: pauli_noise_operator.rs and `Numbers of the no`.
use Rattle.std.specs.Prelude.{false, not, ◌||◌, cond, List, [], map, eqb}
use Rattle.refusal.specs.Refusals.{Said, gives, refuses}
use Rattle.complex.specs.Complex.{in_range}
use Rattle.complex.specs.declared.Complex.{Complex}
use Rattle.terms.specs.Setting.{add_all}
use Rattle.terms.specs.Chains.{full_terms}
use Rattle.term_sets.specs.Complexes.{complex_terms, complex_products}
use Rattle.term_sets.specs.Complexes as operators
use Rattle.term_sets.specs.Complexes.{Term}
use Rattle.term_sets.specs.Complexes.{TermSet}
use Rattle.noise_sets.specs.Pairs.{pair_terms, is_empty, held_by, valid_set}
use Rattle.noise_sets.specs.Pairs.{NoiseTerm}
use Rattle.noise_sets.specs.Pairs.{NoiseSet}
use Rattle.noise_sets.specs.Answers.{ended}

-- the pairs that full operators add
abbrev pub pairs_of : Complex → List Term → List Term → List NoiseTerm
pairs_of v l r = full_terms complex_terms pair_terms complex_products is_empty v l r

-- 4: "operator without terms"; then 5 for the value, also where every product is empty
unfoldable pub add_full_operators : NoiseSet → TermSet → TermSet → Complex → Said Unit × NoiseSet
add_full_operators s l r a =
    cond (not (valid_set s)) (refuses 0 [], s)
    (cond (not (operators.valid_set false l)) (refuses 0 [], s)
    (cond (not (operators.valid_set false r)) (refuses 0 [], s)
    (cond (eqb l.count 0 || eqb r.count 0) (refuses 4 [], s)
    (cond (not (in_range a)) (refuses 5 [], s)
    (ended s (add_all pair_terms (map gives (pairs_of a (operators.held_by l) (operators.held_by r))) (held_by s)))))))
