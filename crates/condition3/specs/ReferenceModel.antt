-- The reference model: document 01's plain book. It is fed the calls, keeps lines on two pages, and looks at no record of a set.
-- Document 01, `The book for condition 3` and `Numbers of the no`.
use Rattle.std.specs.Prelude.{Bool, true, false, not, ◌&&◌, ◌||◌, cond, List, [], ◌∷◌, ltb, eqb, length, Float}
use Rattle.std.proofs.Math.Option.{Option, none, some}
use Rattle.complex.specs.Complex.{plus_zero, sum_of, product_of, conjugate_of, is_zero, in_range}
use Rattle.complex.specs.declared.Complex.{Complex}
use Rattle.items.specs.Record.{valid, same_items, same_key}
use Rattle.items.specs.declared.Items.{Items}
use Rattle.terms.specs.Keyed.{concat_map}
use Rattle.condition3.specs.Runs.{run}
use Rattle.terms.specs.Setting.{most_terms}
use Rattle.term_sets.specs.Complexes as operators
use Rattle.term_sets.specs.Complexes.{Term, TermSet}
use Rattle.noise_sets.specs.Pairs.{Key, is_empty}
use Rattle.condition3.specs.Calls.{Call, set_hamiltonian, add_hamiltonian, set_noise, add_noise, add_noise_from_full_operators}

-- "A line is a key and two f64 parts"
abbrev pub Line : Type 0 → Type 0
Line K = K × Complex

-- "on the Hamiltonian page the second is always +0"
abbrev pub real_part : Float → Complex
real_part x = record { re = x; im = plus_zero }

-- ---- the lines of one set

module _ {K : Type 0} (same : K → K → Bool) where
  -- "the key's line, if any, is struck out"
  unfoldable pub strike_out : K → List (Line K) → List (Line K)
  strike_out k [] = []
  strike_out k (x ∷ xs) = cond (same x.0 k) xs (x ∷ strike_out k xs)

  -- "it replaces the one on that line or makes a new last line"
  unfoldable pub replace_or_append : K → Complex → List (Line K) → List (Line K)
  replace_or_append k z [] = (k, z) ∷ []
  replace_or_append k z (x ∷ xs) = cond (same x.0 k) ((x.0, z) ∷ xs) (x ∷ replace_or_append k z xs)

  -- "To write a coefficient under a key: if it is zero in both parts, …; otherwise …"
  unfoldable pub write_line : K → Complex → List (Line K) → List (Line K)
  write_line k z l = cond (is_zero z) (strike_out k l) (replace_or_append k z l)

  -- "the line's coefficient (+0 in both parts without a line)"
  unfoldable pub on_line : K → List (Line K) → Complex
  on_line k [] = real_part plus_zero
  on_line k (x ∷ xs) = cond (same x.0 k) x.1 (on_line k xs)

  -- "`add_operator_product` writes the line's coefficient (+0 in both parts without a line) plus the given one, each part rounded once"
  unfoldable pub add_line : K → Complex → List (Line K) → List (Line K)
  add_line k z l = write_line k (sum_of (on_line k l) z) l

  -- additions, one after the other
  unfoldable pub add_lines : List (Line K) → List (Line K) → Option (List (Line K))
  add_lines [] l = some l
  add_lines (x ∷ xs) l =
      let m = add_line x.0 x.1 l in
      let r = add_lines xs m in
      cond (ltb most_terms (length m)) none r

-- 6: "a 65th term would be held at some step"; none where it would
unfoldable pub unless_full : {K : Type 0} → List (Line K) → Option (List (Line K))
unless_full l = cond (ltb most_terms (length l)) none (some l)

-- 5: "finally held that is NaN, infinite or over 2^300 in a part"
unfoldable pub lines_in_range : {K : Type 0} → List (Line K) → Bool
lines_in_range [] = true
lines_in_range (x ∷ xs) = in_range x.1 && lines_in_range xs

-- "A call that the numbers below refuse … leaves both pages as before it": `lawful` says that its arguments are not refused, l is what its
-- steps make of the page
unfoldable pub unless_refused : {K : Type 0} → Bool → Option (List (Line K)) → List (Line K) → List (Line K)
unless_refused lawful none lines = lines
unless_refused lawful (some l) lines = cond (lawful && lines_in_range l) l lines

-- ---- the arguments

-- 0 and 5 for a term of the Hamiltonian; 0, 4 and 5 for a pair
unfoldable pub lawful_term : Items → Float → Bool
lawful_term p x = valid p && in_range (real_part x)

unfoldable pub lawful_pair : Key → Complex → Bool
lawful_pair k z = (valid k.0 && valid k.1) && (not (is_empty k.0 || is_empty k.1) && in_range z)

-- 0, 4 ("operator without terms") and 5 for full operators
unfoldable pub lawful_operators : TermSet → TermSet → Complex → Bool
lawful_operators l r v =
    (operators.valid_set false l && operators.valid_set false r) && (not (eqb l.count 0 || eqb r.count 0) && in_range v)

-- "goes through the left terms and, for each, the right terms, in their operators' order. Where neither product is empty, it adds
-- (conjugate of right, times left), times value, under the pair (left product, right product)"
unfoldable pub full_lines : Complex → List Term → List Term → List (Line Key)
full_lines v l r =
    concat_map (λ x. concat_map (λ y.
    cond (is_empty x.key || is_empty y.key) []
    (((x.key, y.key), product_of (product_of (conjugate_of y.coefficient) x.coefficient) v) ∷ [])) r) l

-- ---- the lines of both sets

pub record Model : Type 0 where
  pub hamiltonian : List (Line Items)
  pub noise : List (Line Key)

-- "both empty at first"
abbrev pub empty_model : Model
empty_model = record { hamiltonian = []; noise = [] }

-- what a call leaves on the pages
unfoldable pub noted : Call → Model → Model
noted (set_hamiltonian p x) m =
    record { hamiltonian = unless_refused (lawful_term p x) (unless_full (write_line same_items p (real_part x) m.hamiltonian)) m.hamiltonian; noise = m.noise }
noted (add_hamiltonian p x) m =
    record { hamiltonian = unless_refused (lawful_term p x) (unless_full (add_line same_items p (real_part x) m.hamiltonian)) m.hamiltonian; noise = m.noise }
noted (set_noise k z) m =
    record { hamiltonian = m.hamiltonian; noise = unless_refused (lawful_pair k z) (unless_full (write_line same_key k z m.noise)) m.noise }
noted (add_noise k z) m =
    record { hamiltonian = m.hamiltonian; noise = unless_refused (lawful_pair k z) (unless_full (add_line same_key k z m.noise)) m.noise }
noted (add_noise_from_full_operators l r v) m =
    record {
      hamiltonian = m.hamiltonian;
      noise = unless_refused (lawful_operators l r v) (add_lines same_key (full_lines v (operators.held_by l) (operators.held_by r)) m.noise) m.noise;
    }

-- the pages after a list of calls
unfoldable pub model_after : List Call → Model
model_after calls = run noted calls empty_model
