-- Sets of terms, for any kind of keys and coefficients: the terms that a record holds, the record that holds given terms, which records are valid,
-- and what reading one answers. `zeros` says whether a set may hold zeros, as a `PauliOperator` may.
-- Document 01, `an array of 64 term records, each a product and its coefficient, with a count`, and number 0.
use Rattle.std.specs.Prelude.{◌≡◌, ◌<◌, MatchOption, Bool, ℕ, not, ◌&&◌, ◌||◌, cond, Option, Some, None, List, [], map, length, take}
use Rattle.arrayvec.specs.ArrayVec.{ArrayVec}
use Rattle.refusal.specs.Refusals.{Said, gives, refuses}
use Rattle.complex.specs.Coefficients.{Coefficients}
use Rattle.terms.specs.Keyed.{padded, first_at}
use Rattle.terms.specs.Kind.{Terms}
use Rattle.terms.specs.Setting.{most_terms, keyed, coefficient_at}
use Rattle.terms.specs.Chains.{and_then}
use Rattle.terms.specs.Places as places
use Rattle.term_sets.specs.Keys.{Keys}
use Rattle.term_sets.specs.declared.Term.{Term}
use Rattle.term_sets.specs.declared.Set.{Set}
use Rattle.term_sets.specs.declared.judging.MaskedTerm.{MaskedTerm}

-- the terms that a set holds
abbrev pub held_by : {K N : Type 0} → Set K N → List (Term K N)
held_by s = take s.count s.terms

-- a coefficient of a held term: in range, and not zero where zeros are not allowed
abbrev pub good_coefficient : {N : Type 0} → Coefficients N → Bool → N → Bool
good_coefficient c zeros a = c.in_range a && (zeros || not (c.is_zero a))

module _ {K N : Type 0} (k : Keys K) (c : Coefficients N) where
  abbrev pub term_of : K → N → Term K N
  term_of x a = record { key = x; coefficient = a }

  -- terms of such keys and coefficients; sums are rounded, and a coefficient that is zero in every part counts as zero
  abbrev pub terms : Terms K N
  terms =
      record {
        Term = Term K N;
        term = term_of;
        key = λ t. t.key;
        coefficient = λ t. t.coefficient;
        same = k.same;
        zero = c.zero;
        sum = c.sum;
        is_zero = c.is_zero;
      }

  -- what stands past the count
  abbrev pub blank : Term K N
  blank = term_of k.blank c.zero

  -- the set that holds given terms
  unfoldable pub filled : List (Term K N) → Set K N
  filled l = record { count = length l; terms = padded most_terms blank l }

  -- where a key stands among terms: at the first place that has it, or at none
  abbrev pub StandsAt : K → List (Term K N) → Option ℕ → Type 0
  StandsAt x l at = MatchOption at (first_at (keyed terms x) l ≡ length l) (λ i. (i ≡ first_at (keyed terms x) l) × (i < length l))

  -- a held term: a good key, a good coefficient, and no later term with its key
  abbrev pub good_term : Bool → Term K N → List (Term K N) → Bool
  good_term zeros = places.good_term terms k.good (good_coefficient c zeros)

  -- a term of zeros, +0 in its floats
  unfoldable pub is_blank : Term K N → Bool
  is_blank t = k.same t.key k.blank && c.is_plus_zero t.coefficient

  -- what number 0 lets pass
  unfoldable pub valid_set : Bool → Set K N → Bool
  valid_set zeros s = places.valid_places (good_term zeros) is_blank s.count s.terms

  -- of a valid set: each held term's masks and coefficient; helpers of the rows cite it
  abbrev pub masked_term : Term K N → MaskedTerm N
  masked_term t = record { masks = k.masks_of t.key; coefficient = t.coefficient }

  abbrev pub masked_terms : List (Term K N) → ArrayVec (MaskedTerm N)
  masked_terms l = record { items = map masked_term l }

  unfoldable pub masked_set : Bool → Set K N → Option (ArrayVec (MaskedTerm N))
  masked_set zeros s = cond (valid_set zeros s) (Some (masked_terms (held_by s))) None

  -- the coefficient under a key, zero where it is free
  unfoldable pub get_in : Bool → Set K N → K → Said N
  get_in zeros s x = cond (not (valid_set zeros s)) (refuses 0 []) (and_then (k.said_of x) (λ u. gives (coefficient_at terms x (held_by s))))
