-- What setting and adding one term of a set answer, refusals first in their order: 0, what the key gives, then 5, then 6. `zeros` says
-- whether the set may hold zeros, as a `PauliOperator` may. Document 01: pauli_operator.rs, decoherence_operator.rs and `Numbers of the no`.
use Rattle.std.specs.Prelude.{Bool, not, cond, List, []}
use Rattle.refusal.specs.Refusals.{Said, gives, refuses, done}
use Rattle.complex.specs.Complex.{in_range}
use Rattle.complex.specs.Coefficients.{Coefficients}
use Rattle.complex.specs.declared.Complex.{Complex}
use Rattle.items.specs.Record.{valid}
use Rattle.items.specs.declared.Items.{Items}
use Rattle.terms.specs.Setting.{write, has_room, added}
use Rattle.terms.specs.Entries.{set_in, add_in, all_in_range}
use Rattle.term_sets.specs.Keys.{Keys}
use Rattle.term_sets.specs.Sets as sets
use Rattle.term_sets.specs.Complexes.{TermSet, complex_terms, held_by, filled, valid_set}
use Rattle.term_sets.specs.declared.Set.{Set}

-- a refusal leaves the record as it was; else the rest is answered
abbrev pub unless_refused : {A R : Type 0} → Said Unit → R → Said A × R → Said A × R
unless_refused (gives u) s rest = rest
unless_refused (refuses n l) s rest = (refuses n l, s)

module _ {K N : Type 0} (k : Keys K) (c : Coefficients N) where
  -- the coefficient that was there before, as a list of one; none where the key was free
  unfoldable pub set_answer : Bool → Set K N → K → N → Said (List N) × Set K N
  set_answer zeros s x a =
      cond (not (sets.valid_set k c zeros s)) (refuses 0 [], s)
      (unless_refused (k.said_of x) s (set_in (sets.terms k c) c.in_range (sets.filled k c) (λ t. t.coefficient) s (sets.held_by s) x a))

  -- "`add_operator_product` sets old plus new"
  unfoldable pub add_answer : Bool → Set K N → K → N → Said Unit × Set K N
  add_answer zeros s x a =
      cond (not (sets.valid_set k c zeros s)) (refuses 0 [], s)
      (unless_refused (k.said_of x) s (add_in (sets.terms k c) c.in_range (sets.filled k c) s (sets.held_by s) x a))

  -- ---- chains

  -- one step: a coefficient is added to the one under a key, where there is room
  unfoldable pub add_step : K → N → List (sets.terms k c).Term → Said Unit × List (sets.terms k c).Term
  add_step x a l =
      let S = sets.terms k c in
      let b = added S x a l in
      cond (has_room S x b l) (done, write S x b l) (refuses 6 [], l)

  -- the end: what is held, judged by 5
  unfoldable pub finish : List (sets.terms k c).Term → Said (Set K N)
  finish l = cond (not (all_in_range (sets.terms k c) c.in_range l)) (refuses 5 []) (gives (sets.filled k c l))

-- ---- sets with complex coefficients

-- the coefficient that was there before, as a list of one; none where the key was free
unfoldable pub set_term : Bool → TermSet → Items → Complex → Said (List Complex) × TermSet
set_term zeros s k a =
    cond (not (valid_set zeros s)) (refuses 0 [], s)
    (cond (not (valid k)) (refuses 0 [], s)
    (set_in complex_terms in_range filled (λ t. t.coefficient) s (held_by s) k a))

-- "`add_operator_product` sets old plus new"
unfoldable pub add_term : Bool → TermSet → Items → Complex → Said Unit × TermSet
add_term zeros s k a =
    cond (not (valid_set zeros s)) (refuses 0 [], s)
    (cond (not (valid k)) (refuses 0 [], s)
    (add_in complex_terms in_range filled s (held_by s) k a))
