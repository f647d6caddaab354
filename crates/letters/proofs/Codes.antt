-- What the searches of `times`, `conjugated` and `converted` find, as codes 4 power + letter: tables that are computed from the matrices,
-- and the laws that read them at a letter.
-- Assumes nothing.
use mathlib.Core.Path.{◌≡◌, refl, sym, ap, ap₂, ◌∙◌}
use mathlib.Core.Bool.{Bool, true, cond}
use mathlib.Core.List.{List, [], ◌∷◌}
use Prim.Native.Nat.{ℕ, ◌+◌, ◌*◌, ◌/◌, ◌%◌, ◌≤◌, ◌<◌}
use native.Mathlib.Omega.{arith}
use lib.ListN.{get_or}
use lib.Dec.{eqb}
use borrow.Author.Tests.{eqb-true, ne_eqb}
use Rattle.refusal.specs.Refusals.{Said, gives}
use Rattle.letters.specs.Tests.{every, first_from}
use Rattle.letters.specs.Gauss.{𝟘, 𝟙, −𝟙, i⁺, i⁻, ◌⊕◌, ◌⊗◌, conj, i^, eqℤ, eq_G}
use Rattle.letters.specs.Matrices.{two_by_two, pauli, decoherence, letters_of, product, adjoint}
use Rattle.letters.specs.Single.{same, scaled, as_letter, letter_of, power_of, times, conjugated, converted}
use Rattle.letters.specs.Answers.{other, decoded}
use Rattle.letters.specs.declared.Kind.{Kind}
use Rattle.letters.specs.declared.Kind.TheVariants.{Pauli, Decoherence}
use Rattle.letters.proofs.TestLaws.{every-at}
use Rattle.letters.proofs.TableLaws.{closed}

-- the sixteen products, at 4 left + right
unfoldable pub codes : Kind → List ℕ
codes Pauli = 0 ∷ 1 ∷ 2 ∷ 3 ∷ 1 ∷ 0 ∷ 7 ∷ 14 ∷ 2 ∷ 15 ∷ 0 ∷ 5 ∷ 3 ∷ 6 ∷ 13 ∷ 0 ∷ []
codes Decoherence = 0 ∷ 1 ∷ 2 ∷ 3 ∷ 1 ∷ 0 ∷ 11 ∷ 10 ∷ 2 ∷ 3 ∷ 8 ∷ 9 ∷ 3 ∷ 2 ∷ 1 ∷ 0 ∷ []

-- the four conjugates
unfoldable pub conjugate_codes : Kind → List ℕ
conjugate_codes Pauli = 0 ∷ 1 ∷ 2 ∷ 3 ∷ []
conjugate_codes Decoherence = 0 ∷ 1 ∷ 10 ∷ 3 ∷ []

-- the four letters in those of the other kind
unfoldable pub convert_codes : Kind → List ℕ
convert_codes Pauli = 0 ∷ 1 ∷ 14 ∷ 3 ∷ []
convert_codes Decoherence = 0 ∷ 1 ∷ 6 ∷ 3 ∷ []

-- a table agrees with a function at each number below n
abbrev agrees : List ℕ → (ℕ → ℕ) → ℕ → Bool
agrees cs f n = every n (λ k. eqb (get_or cs k 0) (f k))

-- so it gives the function's value
agrees_at : (cs : List ℕ) (f : ℕ → ℕ) (n k : ℕ) → agrees cs f n ≡ true → k < n → get_or cs k 0 ≡ f k
agrees_at cs f n k e h = eqb-true _ _ (every-at n (λ k. eqb (get_or cs k 0) (f k)) e k h)

-- ---- products

-- the sixteen that `times` finds are those of the table
times_found : (kind : Kind) → agrees (codes kind) (λ k. times (letters_of kind) (k / 4) (k % 4)) 16 ≡ true
unfolding codes times as_letter same scaled every first_from eq_G eqℤ product two_by_two pauli decoherence letters_of i^ 𝟘 𝟙 −𝟙 i⁺ i⁻ ◌⊕◌ ◌⊗◌
times_found Pauli = refl
times_found Decoherence = refl

-- the product whose key is k
pub times_code : (kind : Kind) (l r k : ℕ) → l < 4 → r < 4 → 4 * l + r ≡ k → get_or (codes kind) k 0 ≡ times (letters_of kind) l r
times_code kind l r k hl hr e =
    let el : k / 4 ≡ l = omega arith in
    let er : k % 4 ≡ r = omega arith in
    let found = agrees_at (codes kind) (λ k. times (letters_of kind) (k / 4) (k % 4)) 16 k (times_found kind) (omega arith) in
    rw (el, er) at found

-- ---- conjugates and conversions

-- the four that `conjugated` finds
conjugated_found : (kind : Kind) → agrees (conjugate_codes kind) (conjugated (letters_of kind)) 4 ≡ true
unfolding conjugate_codes conjugated as_letter same scaled every first_from eq_G eqℤ adjoint conj two_by_two pauli decoherence letters_of i^ 𝟘 𝟙 −𝟙 i⁺ i⁻ ◌⊕◌ ◌⊗◌
conjugated_found Pauli = refl
conjugated_found Decoherence = refl

-- the conjugate of a letter
pub conjugated_code : (kind : Kind) (l : ℕ) → l < 4 → get_or (conjugate_codes kind) l 0 ≡ conjugated (letters_of kind) l
conjugated_code kind l h = agrees_at (conjugate_codes kind) (conjugated (letters_of kind)) 4 l (conjugated_found kind) h

-- the four that `converted` finds
converted_found : (kind : Kind) → agrees (convert_codes kind) (converted (letters_of kind) (letters_of (other kind))) 4 ≡ true
unfolding convert_codes converted as_letter same scaled every first_from eq_G eqℤ two_by_two pauli decoherence letters_of i^ 𝟘 𝟙 −𝟙 i⁺ i⁻ ◌⊕◌ ◌⊗◌
converted_found Pauli = refl
converted_found Decoherence = refl

-- a letter in those of the other kind
pub converted_code : (kind : Kind) (l : ℕ) → l < 4 → get_or (convert_codes kind) l 0 ≡ converted (letters_of kind) (letters_of (other kind)) l
converted_code kind l h = agrees_at (convert_codes kind) (converted (letters_of kind) (letters_of (other kind))) 4 l (converted_found kind) h

-- ---- the letter and the power of a code

-- a code below 4 is a letter without a factor
pub plain : {e l : ℕ} → e ≡ l → l < 4 → (l ≡ letter_of e) × (0 ≡ power_of e)
plain p h = (omega arith, omega arith)

-- equal codes have the same letter and the same power
pub parts : {d e : ℕ} → d ≡ e → (letter_of d ≡ letter_of e) × (power_of d ≡ power_of e)
parts p = (ap letter_of p, ap power_of p)

-- the answer with the letter and the power of a code
pub answer : {l k : ℕ} (e : ℕ) → (l ≡ letter_of e) × (k ≡ power_of e) → ◌≡◌ {A = Said (ℕ × ℕ)} (gives (l, k)) (decoded e)
answer e h = ap₂ (λ l k. gives (l, k)) h.0 h.1

-- the identity on the left
pub identity_left : (kind : Kind) (l r : ℕ) → r < 4 → l ≡ 0 → (r ≡ letter_of (times (letters_of kind) l r)) × (0 ≡ power_of (times (letters_of kind) l r))
identity_left kind l r h e = plain (ap (λ (l : ℕ). times (letters_of kind) l r) e ∙ (closed kind).zero-times r h) h

-- the identity on the right
pub identity_right : (kind : Kind) (l r : ℕ) → l < 4 → r ≡ 0 → (l ≡ letter_of (times (letters_of kind) l r)) × (0 ≡ power_of (times (letters_of kind) l r))
identity_right kind l r h e = plain (ap (times (letters_of kind) l) e ∙ (closed kind).times_zero l h) h

-- one key is passed at a time: `omega` takes six inequations at most
past : {k n : ℕ} → n ≤ k → (k ≡ n → ⊥) → n + 1 ≤ k
past h ne = omega arith

-- the key that is left of 4 to 15
pub fourteen : {k : ℕ} → 4 ≤ k → k < 16 → (k ≡ 4 → ⊥) → (k ≡ 5 → ⊥) → (k ≡ 6 → ⊥) → (k ≡ 7 → ⊥) → (k ≡ 8 → ⊥) → (k ≡ 9 → ⊥)
    → (k ≡ 10 → ⊥) → (k ≡ 11 → ⊥) → (k ≡ 12 → ⊥) → (k ≡ 13 → ⊥) → (k ≡ 15 → ⊥) → k ≡ 14
fourteen {k} from to n₄ n₅ n₆ n₇ n₈ n₉ n₁₀ n₁₁ n₁₂ n₁₃ n₁₅ =
    last (past (past (past (past (past (past (past (past (past (past from n₄) n₅) n₆) n₇) n₈) n₉) n₁₀) n₁₁) n₁₂) n₁₃) to n₁₅
  where
    last : {k : ℕ} → 14 ≤ k → k < 16 → (k ≡ 15 → ⊥) → k ≡ 14
    last a b ne = omega arith

-- ---- the letters but Y and iY

-- a table gives each letter but 2 itself
abbrev keeps : List ℕ → Bool
keeps cs = every 4 (λ l. cond (eqb l 2) true (eqb (get_or cs l 0) l))

keeps_at : (cs : List ℕ) → keeps cs ≡ true → (l : ℕ) → l < 4 → (l ≡ 2 → ⊥) → get_or cs l 0 ≡ l
keeps_at cs e l h ne =
    let t = every-at 4 (λ l. cond (eqb l 2) true (eqb (get_or cs l 0) l)) e l h in
    eqb-true _ _ (rw (ne_eqb l 2 ne) at t)

-- conjugation does, and so does conversion
conjugated_keeps : (kind : Kind) → keeps (conjugate_codes kind) ≡ true
unfolding conjugate_codes every
conjugated_keeps Pauli = refl
conjugated_keeps Decoherence = refl

converted_keeps : (kind : Kind) → keeps (convert_codes kind) ≡ true
unfolding convert_codes every
converted_keeps Pauli = refl
converted_keeps Decoherence = refl

-- the conjugate of another letter than 2
pub conjugated_plain : (kind : Kind) (l : ℕ) → l < 4 → (l ≡ 2 → ⊥) → (l ≡ letter_of (conjugated (letters_of kind) l)) × (0 ≡ power_of (conjugated (letters_of kind) l))
conjugated_plain kind l h ne = plain (sym (conjugated_code kind l h) ∙ keeps_at (conjugate_codes kind) (conjugated_keeps kind) l h ne) h

-- the conversion of another letter than 2
pub converted_plain : (kind : Kind) (l : ℕ) → l < 4 → (l ≡ 2 → ⊥) → (l ≡ letter_of (converted (letters_of kind) (letters_of (other kind)) l)) × (0 ≡ power_of (converted (letters_of kind) (letters_of (other kind)) l))
converted_plain kind l h ne = plain (sym (converted_code kind l h) ∙ keeps_at (convert_codes kind) (converted_keeps kind) l h ne) h

-- the conjugate of a Pauli letter is the letter
pauli_keeps : every 4 (λ l. eqb (get_or (conjugate_codes Pauli) l 0) l) ≡ true
unfolding conjugate_codes every
pauli_keeps = refl

pub conjugated_pauli : (l : ℕ) → l < 4 → (l ≡ letter_of (conjugated (letters_of Pauli) l)) × (0 ≡ power_of (conjugated (letters_of Pauli) l))
conjugated_pauli l h =
    let k = eqb-true _ _ (every-at 4 (λ l. eqb (get_or (conjugate_codes Pauli) l 0) l) pauli_keeps l h) in
    plain (sym (conjugated_code Pauli l h) ∙ k) h
