-- What moving the products of a noise set to other sites answers, refusals first in their order: 0, then at each step that of its left product, of its right
-- one, and 6, and 5 for what is held at the end. Document 01: pauli_noise_operator.rs and `Numbers of the no`.
use Rattle.std.specs.Prelude.{Result, ℕ, not, cond, [], map}
use Rattle.refusal.specs.Refusals.{Said, gives, refuses, told_by}
use Rattle.refusal.specs.declared.Refusal.{Refusal}
use Rattle.remapping.specs.Targets.{remap_answer}
use Rattle.terms.specs.Setting.{add_all}
use Rattle.terms.specs.Chains.{and_then, given}
use Rattle.noise_sets.specs.Pairs.{pair_terms, pair_of, held_by, valid_set}
use Rattle.noise_sets.specs.Pairs.{NoiseTerm}
use Rattle.noise_sets.specs.Pairs.{NoiseSet}
use Rattle.noise_sets.specs.Answers.{ended}

-- a term whose products are moved, left before right; a product refused refuses the step
unfoldable pub remap_step : (ℕ → ℕ) → NoiseTerm → Said NoiseTerm
remap_step t x =
    and_then (given (remap_answer t x.key.0)) (λ p.
    and_then (given (remap_answer t x.key.1)) (λ q.
    gives (pair_of (p, q) x.coefficient)))

-- term after term, added to nothing
unfoldable pub remap_set : (ℕ → ℕ) → NoiseSet → Said Unit × NoiseSet
remap_set t s = cond (not (valid_set s)) (refuses 0 [], s) (ended s (add_all pair_terms (map (remap_step t) (held_by s)) []))

-- with the set that the caller then has: the answer's, or, refused, the one before
abbrev pub told : NoiseSet → Result NoiseSet Refusal → Said Unit × NoiseSet
told before r = told_by before (λ s. s) r
