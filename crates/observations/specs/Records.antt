-- When two records are the same in every place. Document 01: "State given in comes back unchanged"; "numbers compared with +0 equal to -0".
use Rattle.std.specs.Prelude.{ℕ, Bool, true, false, ◌&&◌, cond, List, [], ◌∷◌, eqb, Float}
use Rattle.std.specs.Float.{binary64}
use Rattle.std.specs.Float.Ieee.{eq, to_bits}
use Rattle.complex.specs.declared.Complex.{Complex}
use Rattle.items.specs.Record.{same_items}
use Rattle.items.specs.declared.Items.{Items}
use Rattle.noise_sets.specs.Pairs.{NoiseSet}
use Rattle.term_sets.specs.Complexes.{TermSet}
use Rattle.term_sets.specs.declared.Set.{Set}
use Rattle.term_sets.specs.declared.Term.{Term}

-- the bits of a number, and 2^64 - 1 of what is none
abbrev pub bits_of : Float → ℕ
bits_of x = cond (eq x x) (to_bits binary64 x) 18446744073709551615

-- parts, to the bit or as numbers
abbrev pub same_part : Bool → Float → Float → Bool
same_part exact x y = cond exact (eqb (bits_of x) (bits_of y)) (eq x y)

abbrev pub same_number : Bool → Complex → Complex → Bool
same_number exact a b = same_part exact a.re b.re && same_part exact a.im b.im

-- lists of one length whose elements are the same, place by place
unfoldable pub same_lists : {A : Type 0} → (A → A → Bool) → List A → List A → Bool
same_lists same [] [] = true
same_lists same [] (y ∷ ys) = false
same_lists same (x ∷ xs) [] = false
same_lists same (x ∷ xs) (y ∷ ys) = same x y && same_lists same xs ys

-- ---- sets, by their keys and coefficients

abbrev pub same_term : {K N : Type 0} → (K → K → Bool) → (N → N → Bool) → Term K N → Term K N → Bool
same_term key number t u = key t.key u.key && number t.coefficient u.coefficient

abbrev pub same_set : {K N : Type 0} → (K → K → Bool) → (N → N → Bool) → Set K N → Set K N → Bool
same_set key number a b = eqb a.count b.count && same_lists (same_term key number) a.terms b.terms

-- products with complex coefficients and with real ones, and pairs of products
abbrev pub same_terms : Bool → TermSet → TermSet → Bool
same_terms exact = same_set same_items (same_number exact)

abbrev pub same_reals : Bool → Set Items Float → Set Items Float → Bool
same_reals exact = same_set same_items (same_part exact)

abbrev pub same_pairs : Bool → NoiseSet → NoiseSet → Bool
same_pairs exact = same_set (λ k l. same_items k.0 l.0 && same_items k.1 l.1) (same_number exact)
