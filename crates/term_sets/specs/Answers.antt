-- What reading a set with complex coefficients answers, number 0 first, and what the answers on sets say. `zeros` says whether the set may hold
-- zeros, as a `PauliOperator` may.
-- Document 01: pauli_operator.rs, decoherence_operator.rs and `Numbers of the no`.
use Rattle.std.specs.Prelude.{Bool, not, cond, Option, Result, List, []}
use Rattle.refusal.specs.Refusals.{Said, gives, refuses, listed, said_by}
use Rattle.refusal.specs.declared.Refusal.{Refusal}
use Rattle.complex.specs.declared.Complex.{Complex}
use Rattle.items.specs.Record.{valid}
use Rattle.items.specs.declared.Items.{Items}
use Rattle.terms.specs.Setting.{coefficient_at}
use Rattle.term_sets.specs.Complexes.{TermSet, complex_terms, held_by, valid_set}

-- the coefficient under a key, zero where it is free
unfoldable pub get_term : Bool → TermSet → Items → Said Complex
get_term zeros s k =
    cond (not (valid_set zeros s)) (refuses 0 [])
    (cond (not (valid k)) (refuses 0 [])
    (gives (coefficient_at complex_terms k (held_by s))))

-- ---- what an answer says

abbrev pub said_get : Result Complex Refusal → Said Complex
said_get r = said_by (λ a. a) r

-- "the old coefficient's two parts, or that the key was free"
abbrev pub said_set : Result (Option Complex) Refusal → Said (List Complex)
said_set r = said_by listed r
