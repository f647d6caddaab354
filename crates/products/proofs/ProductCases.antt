-- Cases of setting a site and of products beside the marked ones, by computation from the definitions.
-- Letters: 1 X, 2 Y, 3 Z. Assumes nothing.
use mathlib.Core.Path.{◌≡◌, refl}
use mathlib.Core.List.{List, [], ◌∷◌}
use Prim.Native.Nat.{ℕ}
use lib.ListN.{length, replicate}
use Rattle.refusal.specs.Refusals.{refuses, done}
use Rattle.letters.specs.Gauss.{◌⊕◌, ◌⊗◌, 𝟘, 𝟙, −𝟙, i⁺, i⁻, i^, eqℤ, eq_G}
use Rattle.letters.specs.Sums.{total}
use Rattle.letters.specs.Tests.{every, first_from}
use Rattle.letters.specs.Matrices.{two_by_two, pauli, product}
use Rattle.letters.specs.Single.{same, scaled, as_letter, times}
use Rattle.items.specs.Lists.{at, support, padded}
use Rattle.items.specs.Record.{place_valid, in_shape, valid, lookup, letter_at, reach, record_of}
use Rattle.merging.specs.SiteAnswers.{set_answer}
use Rattle.merging.specs.ProductAnswers.{multiply_answer, first_occupied, concatenate_answer}
use Rattle.items.specs.declared.Items.{Items}

-- the record with the listed letters on sites 0, 1, ..
abbrev pub product_of_lem : List ℕ → Items
product_of_lem l = record_of (at l) (length l)

-- ---- setting a site

-- 0X2Z with a letter on a free site, and with one in place of another
pub letter-added : set_answer (product_of_lem (1 ∷ 0 ∷ 3 ∷ [])) 1 2 ≡ (done, product_of_lem (1 ∷ 2 ∷ 3 ∷ []))
unfolding set_answer valid in_shape every place_valid letter_at lookup reach record_of support padded
letter-added = refl

pub letter_replaced : set_answer (product_of_lem (1 ∷ 0 ∷ 3 ∷ [])) 2 2 ≡ (done, product_of_lem (1 ∷ 0 ∷ 2 ∷ []))
unfolding set_answer valid in_shape every place_valid letter_at lookup reach record_of support padded
letter_replaced = refl

-- the highest site is taken
pub site_30_taken : set_answer (product_of_lem (1 ∷ [])) 30 3 ≡ (done, record { count = 2; sites = 0 ∷ 30 ∷ replicate 29 0; letters = 1 ∷ 3 ∷ replicate 29 0 })
unfolding set_answer valid in_shape every place_valid letter_at lookup reach record_of support padded
site_30_taken = refl

-- site 31, also with a letter that is refused by itself; letter 4
pub site_31_refused : (l : ℕ) → set_answer (product_of_lem (1 ∷ [])) 31 l ≡ (refuses 1 (31 ∷ []), product_of_lem (1 ∷ []))
unfolding set_answer valid in_shape every place_valid record_of support padded
site_31_refused l = refl

pub letter_4_refused : set_answer (product_of_lem (1 ∷ [])) 30 4 ≡ (refuses 2 [], product_of_lem (1 ∷ []))
unfolding set_answer valid in_shape every place_valid record_of support padded
letter_4_refused = refl

-- a count of 32, refused whatever the site and the letter
abbrev overfull : Items
overfull = record { count = 32; sites = replicate 31 0; letters = replicate 31 0 }

pub overfull_refused : (s l : ℕ) → set_answer overfull s l ≡ (refuses 0 [], overfull)
unfolding set_answer valid in_shape every place_valid
overfull_refused s l = refl

-- ---- the product

-- the powers of two sites add up: 0X1Y times 0Y1X is 0Z1Z with i and -i, and 0X1Z times 0Y1Z is 0Z with i
pub powers_cancel : multiply_answer pauli (product_of_lem (1 ∷ 2 ∷ [])) (product_of_lem (2 ∷ 1 ∷ [])) ≡ (done, (0, product_of_lem (3 ∷ 3 ∷ [])))
unfolding multiply_answer valid in_shape every place_valid letter_at lookup reach record_of support padded total times as_letter same scaled first_from eq_G eqℤ product pauli two_by_two i^ ◌⊕◌ ◌⊗◌ 𝟘 𝟙 −𝟙 i⁺ i⁻
powers_cancel = refl

pub letters_cancel : multiply_answer pauli (product_of_lem (1 ∷ 3 ∷ [])) (product_of_lem (2 ∷ 3 ∷ [])) ≡ (done, (1, product_of_lem (3 ∷ [])))
unfolding multiply_answer valid in_shape every place_valid letter_at lookup reach record_of support padded total times as_letter same scaled first_from eq_G eqℤ product pauli two_by_two i^ ◌⊕◌ ◌⊗◌ 𝟘 𝟙 −𝟙 i⁺ i⁻
letters_cancel = refl

-- ---- two products joined

-- 0X joined with 0Z is refused with site 0, 0X1X with 1Z2Z with site 1, 0X1X with 0Y1Y with the first site, 0; 0X with 1Z is 0X1Z
pub shared_site_refused : concatenate_answer (product_of_lem (1 ∷ [])) (product_of_lem (3 ∷ [])) ≡ (refuses 3 (0 ∷ []), product_of_lem (1 ∷ []))
unfolding concatenate_answer first_occupied first_from valid in_shape every place_valid letter_at lookup reach record_of support padded
shared_site_refused = refl

pub second_site_refused : concatenate_answer (product_of_lem (1 ∷ 1 ∷ [])) (product_of_lem (0 ∷ 3 ∷ 3 ∷ [])) ≡ (refuses 3 (1 ∷ []), product_of_lem (1 ∷ 1 ∷ []))
unfolding concatenate_answer first_occupied first_from valid in_shape every place_valid letter_at lookup reach record_of support padded
second_site_refused = refl

pub first_shared_site_named : concatenate_answer (product_of_lem (1 ∷ 1 ∷ [])) (product_of_lem (2 ∷ 2 ∷ [])) ≡ (refuses 3 (0 ∷ []), product_of_lem (1 ∷ 1 ∷ []))
unfolding concatenate_answer first_occupied first_from valid in_shape every place_valid letter_at lookup reach record_of support padded
first_shared_site_named = refl

pub sites_joined : concatenate_answer (product_of_lem (1 ∷ [])) (product_of_lem (0 ∷ 3 ∷ [])) ≡ (done, product_of_lem (1 ∷ 3 ∷ []))
unfolding concatenate_answer first_occupied first_from valid in_shape every place_valid letter_at lookup reach record_of support padded
sites_joined = refl
