-- What the chains of additions on sets with complex coefficients, and their multiples, answer, refusals first in their order: 0, then 5 for a number
-- given, then at each step its own refusal and 6, and 5 for what is held at the end. `zeros` says whether the set may hold zeros, as a
-- `PauliOperator` may. Document 01: pauli_operator.rs, decoherence_operator.rs and `Numbers of the no`.
use Rattle.std.specs.Prelude.{Result, Bool, true, not, cond, List, [], ◌∷◌, ◌++◌, map}
use Rattle.refusal.specs.Refusals.{Said, gives, refuses, done, told_by}
use Rattle.refusal.specs.declared.Refusal.{Refusal}
use Rattle.complex.specs.Coefficients.{zero_complex}
use Rattle.complex.specs.Complex.{sum_of, is_zero, in_range}
use Rattle.complex.specs.declared.Complex.{Complex}
use Rattle.items.specs.declared.Items.{Items}
use Rattle.letters.specs.Matrices.{Letters}
use Rattle.merging.specs.ProductAnswers.{multiply_answer}
use Rattle.phases.specs.Answers.{conjugate_answer, convert_answer}
use Rattle.terms.specs.Setting.{add_all}
use Rattle.terms.specs.Entries as entries
use Rattle.terms.specs.Chains.{given, times_steps, conjugate_terms, convert_terms, scaled_terms}
use Rattle.term_sets.specs.Complexes.{Term, TermSet, term_of, complex_terms, complex_products, held_by, filled, valid_set}

-- with the set that the caller then has: the answer's, or, refused, the one before
abbrev pub told : TermSet → Result TermSet Refusal → Said Unit × TermSet
told before r = told_by before (λ s. s) r

-- every coefficient is in range
abbrev pub all_in_range : List Term → Bool
all_in_range = entries.all_in_range complex_terms in_range

-- what a chain ends in, judged by 5; s stands beside a refusal
abbrev pub ended : TermSet → Said (List Term) → Said Unit × TermSet
ended = entries.ended complex_terms in_range filled

-- a set with one term more after its own, which have other keys: its coefficient is added to zero, a zero is not held, and 5 judges another one;
-- only a helper cites it
unfoldable pub keep_term : Items → Complex → TermSet → Said Unit × TermSet
keep_term k a s =
    let b = sum_of zero_complex a in
    cond (is_zero b) (done, s)
    (cond (not (in_range b)) (refuses 5 [], s)
    (done, filled (held_by s ++ term_of k b ∷ [])))

-- the steps of a product, and the terms that the other chains add
abbrev pub product_steps : Letters → List Term → List Term → List (Said Term)
product_steps M l r = times_steps complex_terms complex_products (λ p q. given (multiply_answer M p q)) l r

abbrev pub conjugates : Letters → List Term → List Term
conjugates M l = conjugate_terms complex_terms complex_products (λ p. (conjugate_answer M p).1) l

abbrev pub conversions : Letters → Letters → List Term → List Term
conversions M M' l = convert_terms complex_terms complex_products (λ p. (convert_answer M M' p).1) l

unfoldable pub multiply_sets : Letters → Bool → TermSet → TermSet → Said Unit × TermSet
multiply_sets M zeros s t =
    cond (not (valid_set zeros s)) (refuses 0 [], s)
    (cond (not (valid_set zeros t)) (refuses 0 [], s)
    (ended s (add_all complex_terms (product_steps M (held_by s) (held_by t)) [])))

unfoldable pub conjugate_set : Letters → Bool → TermSet → Said Unit × TermSet
conjugate_set M zeros s =
    cond (not (valid_set zeros s)) (refuses 0 [], s)
    (ended s (add_all complex_terms (map gives (conjugates M (held_by s))) []))

-- the answer has another type, so the empty set stands beside a refusal
unfoldable pub convert_set : Letters → Letters → Bool → TermSet → Said Unit × TermSet
convert_set M M' zeros s =
    cond (not (valid_set zeros s)) (refuses 0 [], filled [])
    (ended (filled []) (add_all complex_terms (map gives (conversions M M' (held_by s))) []))

-- "`PauliOperator` times a number keeps every term, those that became zero too"
unfoldable pub scale_set : TermSet → Complex → Said Unit × TermSet
scale_set s a =
    cond (not (valid_set true s)) (refuses 0 [], s)
    (cond (not (in_range a)) (refuses 5 [], s)
    (ended s (gives (scaled_terms complex_terms complex_products a (held_by s)))))
