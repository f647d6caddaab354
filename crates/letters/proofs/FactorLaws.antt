-- The powers of i that the single-site entries answer. An accepted answer says the matrices' product, conjugate or conversion; its number is 0 to 3, and
-- the matrices leave no other; where decoherence letters are multiplied or conjugated it is 0 or 2: "Factors are +1 or -1 except in conversions". Assumes nothing.
use mathlib.Core.Path.{◌≡◌, refl, sym, ap, ap₂, ◌∙◌}
use mathlib.Core.Bool.{Bool, true, false, ◌||◌, cond}
use mathlib.Core.List.{[]}
use mathlib.Core.Logic.{◌⊎◌, inl, inr}
use Prim.Native.Nat.{ℕ, zero, suc, ◌+◌, ◌*◌, ◌/◌, ◌%◌, ◌≤◌, ◌<◌}
use native.Mathlib.Omega.{arith}
use lib.Dec.{eqb, ltb}
use lib.ListN.{get_or}
use borrow.Author.Tests.{eqb-true, eq-eqb, ltb-false, le-ltb}
use Rattle.refusal.specs.Refusals.{gives, refuses}
use Rattle.letters.specs.Tests.{every}
use Rattle.letters.specs.Gauss.{G, 𝟘, ◌⊗◌, i^}
use Rattle.letters.specs.Matrices.{Letters, decoherence, letters_of, product, adjoint}
use Rattle.letters.specs.Single.{as_letter, letter_of, power_of, times, conjugated, converted, cell}
use Rattle.letters.specs.Answers.{other, decoded, multiply_letters, conjugate_letter, convert_letter, highest_letter}
use Rattle.letters.specs.declared.Kind.{Kind}
use Rattle.letters.specs.declared.Kind.TheVariants.{Pauli, Decoherence}
use Rattle.letters.proofs.TestLaws.{every-at, neither}
use Rattle.letters.proofs.GaussLaws.{i^-same_beside}
use Rattle.letters.proofs.TableLaws.{as_letter_right, closed, converts}
use Rattle.letters.proofs.Codes.{codes, conjugate_codes, times_code, conjugated_code}

-- ---- what an accepted answer says

-- an answer that is given has passed the test, and is the letter and the power of its code
record Given (b : Bool) (e c k : ℕ) : Type 0 where
  passed : b ≡ false
  letter : letter_of e ≡ c
  power : power_of e ≡ k

given : (b : Bool) (e c k : ℕ) → cond b (refuses 2 []) (decoded e) ≡ gives (c, k) → Given b e c k
given true e c k h = let z : ◌≡◌ {A = ℕ} 0 1 = cc in absurd (omega arith)
given false e c k h =
    let g : ◌≡◌ {A = ℕ × ℕ} (letter_of e, power_of e) (c, k) = cc in
    record { passed = refl; letter = ap (λ x. x.0) g; power = ap (λ x. x.1) g }

-- the answer (c, k) for a matrix: the matrix is i^k times that of the letter c, a code up to 3, with k from 0 to 3
record AnswerFor (M : Letters) (A : ℕ → ℕ → G) (c k : ℕ) : Type 0 where
  right : (x y : ℕ) → x < 2 → y < 2 → A x y ≡ i^ k ⊗ M c x y
  letter : c < 4
  power : k < 4

found : (M : Letters) (A : ℕ → ℕ → G) (b : Bool) (c k : ℕ) → as_letter M A < 16 → Given b (as_letter M A) c k → AnswerFor M A c k
found M A b c k h g = record {
  right = λ x y hx hy. as_letter_right M A h x y hx hy ∙ ap₂ (λ k c. i^ k ⊗ M c x y) g.power g.letter;
  letter = omega (arith, g.letter);
  power = omega (arith, g.power, h);
}

-- a letter that passed the test is a code up to 3
passed_below : {l : ℕ} → ltb highest_letter l ≡ false → l < 4
passed_below {l} e = omega (arith, ltb-false highest_letter l e)

-- ---- the product of two letters

-- both letters are codes up to 3
factors_below : (M : Letters) (l r c k : ℕ) → multiply_letters M l r ≡ gives (c, k) → (l < 4) × (r < 4)
unfolding multiply_letters
factors_below M l r c k e =
    let g = given (ltb highest_letter l || ltb highest_letter r) (times M l r) c k e in
    let s = neither (ltb highest_letter l) (ltb highest_letter r) g.passed in
    (passed_below s.0, passed_below s.1)

multiply_answer_lem : (kind : Kind) (l r c k : ℕ) → multiply_letters (letters_of kind) l r ≡ gives (c, k)
    → AnswerFor (letters_of kind) (product (letters_of kind l) (letters_of kind r)) c k
unfolding multiply_letters times
multiply_answer_lem kind l r c k e =
    let M = letters_of kind in
    let h = factors_below M l r c k e in
    found M (product (M l) (M r)) (ltb highest_letter l || ltb highest_letter r) c k ((closed kind).times_lt l r h.0 h.1)
    (given (ltb highest_letter l || ltb highest_letter r) (times M l r) c k e)

pub multiply-letter_right : (kind : Kind) (l r c k : ℕ) → multiply_letters (letters_of kind) l r ≡ gives (c, k) → (x y : ℕ) → x < 2 → y < 2
    → product (letters_of kind l) (letters_of kind r) x y ≡ i^ k ⊗ letters_of kind c x y
multiply-letter_right kind l r c k e = (multiply_answer_lem kind l r c k e).right

pub multiply-letter-below : (kind : Kind) (l r c k : ℕ) → multiply_letters (letters_of kind) l r ≡ gives (c, k) → k < 4
multiply-letter-below kind l r c k e = (multiply_answer_lem kind l r c k e).power

-- ---- the conjugate transpose of a letter

conjugate_answer_lem : (kind : Kind) (l c k : ℕ) → conjugate_letter (letters_of kind) l ≡ gives (c, k) → AnswerFor (letters_of kind) (adjoint (letters_of kind l)) c k
unfolding conjugate_letter conjugated
conjugate_answer_lem kind l c k e =
    let M = letters_of kind in
    let g = given (ltb highest_letter l) (conjugated M l) c k e in
    found M (adjoint (M l)) (ltb highest_letter l) c k ((closed kind).conjugated_lt l (passed_below g.passed)) g

pub conjugate_letter_right : (kind : Kind) (l c k : ℕ) → conjugate_letter (letters_of kind) l ≡ gives (c, k) → (x y : ℕ) → x < 2 → y < 2
    → adjoint (letters_of kind l) x y ≡ i^ k ⊗ letters_of kind c x y
conjugate_letter_right kind l c k e = (conjugate_answer_lem kind l c k e).right

pub conjugate_letter-below : (kind : Kind) (l c k : ℕ) → conjugate_letter (letters_of kind) l ≡ gives (c, k) → k < 4
conjugate_letter-below kind l c k e = (conjugate_answer_lem kind l c k e).power

-- ---- a letter in letters of the other kind

convert_answer : (kind : Kind) (l c k : ℕ) → convert_letter (letters_of kind) (letters_of (other kind)) l ≡ gives (c, k)
    → AnswerFor (letters_of (other kind)) (letters_of kind l) c k
unfolding convert_letter converted
convert_answer kind l c k e =
    let M' = letters_of (other kind) in
    let g = given (ltb highest_letter l) (converted (letters_of kind) M' l) c k e in
    found M' (letters_of kind l) (ltb highest_letter l) c k ((converts kind (other kind)).converted_lt l (passed_below g.passed)) g

pub convert_letter_right : (kind : Kind) (l c k : ℕ) → convert_letter (letters_of kind) (letters_of (other kind)) l ≡ gives (c, k)
    → (x y : ℕ) → x < 2 → y < 2 → letters_of kind l x y ≡ i^ k ⊗ letters_of (other kind) c x y
convert_letter_right kind l c k e = (convert_answer kind l c k e).right

pub convert_letter-below : (kind : Kind) (l c k : ℕ) → convert_letter (letters_of kind) (letters_of (other kind)) l ≡ gives (c, k) → k < 4
convert_letter-below kind l c k e = (convert_answer kind l c k e).power

-- ---- no other number

-- a matrix that is i^k times that of the letter in an answer is i^j times it for no other j from 0 to 3
one_letter_power : (kind : Kind) (A : ℕ → ℕ → G) (c k : ℕ) → AnswerFor (letters_of kind) A c k → (j : ℕ) → j < 4
    → ((x y : ℕ) → x < 2 → y < 2 → A x y ≡ i^ j ⊗ letters_of kind c x y) → j ≡ k
one_letter_power kind A c k a j hj e =
    let M = letters_of kind in
    let y = cell M c 0 % 2 in
    let hy : y < 2 = omega arith in
    let entry = (closed kind).cell_right c 0 y a.letter (omega arith) hy ∙ ap (λ t. cond t (i^ (cell M c 0 / 2)) 𝟘) (eq-eqb y y refl) in
    let same = sym (e 0 y (omega arith) hy) ∙ a.right 0 y (omega arith) hy in
    i^-same_beside (cell M c 0 / 2) j k hj a.power (rw entry at same)

pub multiply-letter_one_power : (kind : Kind) (l r c k : ℕ) → multiply_letters (letters_of kind) l r ≡ gives (c, k) → (j : ℕ) → j < 4
    → ((x y : ℕ) → x < 2 → y < 2 → product (letters_of kind l) (letters_of kind r) x y ≡ i^ j ⊗ letters_of kind c x y) → j ≡ k
multiply-letter_one_power kind l r c k e = one_letter_power kind (product (letters_of kind l) (letters_of kind r)) c k (multiply_answer_lem kind l r c k e)

pub conjugate_letter_one_power : (kind : Kind) (l c k : ℕ) → conjugate_letter (letters_of kind) l ≡ gives (c, k) → (j : ℕ) → j < 4
    → ((x y : ℕ) → x < 2 → y < 2 → adjoint (letters_of kind l) x y ≡ i^ j ⊗ letters_of kind c x y) → j ≡ k
conjugate_letter_one_power kind l c k e = one_letter_power kind (adjoint (letters_of kind l)) c k (conjugate_answer_lem kind l c k e)

pub convert_letter_one_power : (kind : Kind) (l c k : ℕ) → convert_letter (letters_of kind) (letters_of (other kind)) l ≡ gives (c, k) → (j : ℕ) → j < 4
    → ((x y : ℕ) → x < 2 → y < 2 → letters_of kind l x y ≡ i^ j ⊗ letters_of (other kind) c x y) → j ≡ k
convert_letter_one_power kind l c k e = one_letter_power (other kind) (letters_of kind l) c k (convert_answer kind l c k e)

-- ---- even powers

-- the sixteen products of decoherence letters
even_test : every 16 (λ k. eqb (power_of (get_or (codes Decoherence) k 0) % 2) 0) ≡ true
unfolding codes every
even_test = refl

-- the product of two decoherence letters has an even power
pub times_even : (l r : ℕ) → l < 4 → r < 4 → power_of (times decoherence l r) % 2 ≡ 0
unfolding letters_of
times_even l r hl hr =
    let k = 4 * l + r in
    sym (ap (λ e. power_of e % 2) (times_code Decoherence l r k hl hr refl))
    ∙ eqb-true _ 0 (every-at 16 (λ k. eqb (power_of (get_or (codes Decoherence) k 0) % 2) 0) even_test k (omega arith))

-- the power of i that comes with the conjugate of the letter 2
abbrev pub conjugate_power : Kind → ℕ
conjugate_power Pauli = 0
conjugate_power Decoherence = 2

conjugate_test : (kind : Kind) → every 4 (λ l. eqb (power_of (get_or (conjugate_codes kind) l 0)) (cond (eqb l 2) (conjugate_power kind) 0)) ≡ true
unfolding conjugate_codes every
conjugate_test Pauli = refl
conjugate_test Decoherence = refl

-- every other letter's conjugate has none
pub conjugated_power : (kind : Kind) (l : ℕ) → l < 4 → power_of (conjugated (letters_of kind) l) ≡ cond (eqb l 2) (conjugate_power kind) 0
conjugated_power kind l h =
    sym (ap power_of (conjugated_code kind l h))
    ∙ eqb-true _ _ (every-at 4 (λ l. eqb (power_of (get_or (conjugate_codes kind) l 0)) (cond (eqb l 2) (conjugate_power kind) 0)) (conjugate_test kind) l h)

-- ---- the signs of the single-site entries

-- +1 or -1: the power is 0 or 2
abbrev pub Sign : ℕ → Type 0
Sign k = (k ≡ 0) ⊎ (k ≡ 2)

-- an even number from 0 to 3
pub even_sign : (k : ℕ) → k < 4 → k % 2 ≡ 0 → Sign k
even_sign zero h e = inl refl
even_sign (suc zero) h e = absurd (omega arith)
even_sign (suc (suc zero)) h e = inr refl
even_sign (suc (suc (suc zero))) h e = absurd (omega arith)
even_sign (suc (suc (suc (suc k)))) h e = absurd (omega arith)

-- the product of two decoherence letters
pub multiply-letter_sign : (l r c k : ℕ) → multiply_letters decoherence l r ≡ gives (c, k) → Sign k
unfolding multiply_letters letters_of
multiply-letter_sign l r c k e =
    let h = factors_below decoherence l r c k e in
    let g = given (ltb highest_letter l || ltb highest_letter r) (times decoherence l r) c k e in
    let even = times_even l r h.0 h.1 in
    even_sign k (multiply-letter-below Decoherence l r c k e) (rw g.power at even)

-- the conjugate of a decoherence letter: the letter itself, with the power 2 for iY and 0 for every other
pub conjugate_letter_sign : (l : ℕ) → l ≤ highest_letter → conjugate_letter decoherence l ≡ gives (l, cond (eqb l 2) 2 0)
unfolding conjugate_letter letters_of
conjugate_letter_sign l h =
    rw (le-ltb highest_letter l h)
    (ap₂ (λ c k. gives (c, k)) ((closed Decoherence).conjugated-letter l (omega arith)) (conjugated_power Decoherence l (omega arith)))
