-- One site: what `as_letter` finds is right for any letters, and for both kinds it finds one of the sixteen, by computed tests over all codes and bits.
-- Assumes nothing.
use mathlib.Core.Path.{◌≡◌, refl}
use mathlib.Core.Bool.{Bool, true, cond, ◌&&◌}
use Prim.Native.Nat.{ℕ, ◌/◌, ◌%◌, ◌<◌}
use borrow.Author.Tests.{eqb-true, ltb-true}
use lib.Dec.{eqb, ltb}
use Rattle.letters.specs.Tests.{every, first_from}
use Rattle.letters.specs.Gauss.{G, 𝟘, 𝟙, −𝟙, i⁺, i⁻, ◌⊕◌, ◌⊗◌, conj, i^, eqℤ, eq_G}
use Rattle.letters.specs.Matrices.{Letters, two_by_two, pauli, decoherence, letters_of, product, adjoint}
use Rattle.letters.specs.Single.{same, scaled, as_letter, letter_of, power_of, times, conjugated, converted, cell}
use Rattle.letters.specs.declared.Kind.{Kind}
use Rattle.letters.specs.declared.Kind.TheVariants.{Pauli, Decoherence}
use Rattle.letters.proofs.TestLaws.{and_left, and_right, every-at, first_holds}
use Rattle.letters.proofs.GaussLaws.{eq_G_true}

-- ---- what is found is right

-- a test over two numbers, at two of them
every-both : (m n : ℕ) (p : ℕ → ℕ → Bool) → every m (λ x. every n (p x)) ≡ true → (x y : ℕ) → x < m → y < n → p x y ≡ true
every-both m n p e x y hx hy = every-at n (p x) (every-at m (λ x. every n (p x)) e x hx) y hy

-- matrices that pass the test have the same entries
pub same_at : (A B : ℕ → ℕ → G) → same A B ≡ true → (x y : ℕ) → x < 2 → y < 2 → A x y ≡ B x y
unfolding same
same_at A B e x y hx hy = eq_G_true (A x y) (B x y) (every-both 2 2 (λ x y. eq_G (A x y) (B x y)) e x y hx hy)

-- where a power of i and a letter are found, they give the matrix
pub as_letter_right : (M : Letters) (A : ℕ → ℕ → G) → as_letter M A < 16 → (x y : ℕ) → x < 2 → y < 2
    → A x y ≡ i^ (power_of (as_letter M A)) ⊗ M (letter_of (as_letter M A)) x y
unfolding as_letter scaled
as_letter_right M A h x y hx hy =
    let e = as_letter M A in
    same_at A (scaled (e / 4) (M (e % 4))) (first_holds (λ e. same A (scaled (e / 4) (M (e % 4)))) 16 0 h) x y hx hy

-- ---- the facts of a kind of letters that the theorems use

pub record Closed (M : Letters) : Type 0 where
  -- the letter 0 is the identity
  pub identity : (x y : ℕ) → x < 2 → y < 2 → M 0 x y ≡ cond (eqb x y) 𝟙 𝟘
  -- a product of two letters is a power of i times a letter; with the identity it is the other letter
  pub times_lt : (l r : ℕ) → l < 4 → r < 4 → times M l r < 16
  pub times_zero : (l : ℕ) → l < 4 → times M l 0 ≡ l
  pub zero-times : (l : ℕ) → l < 4 → times M 0 l ≡ l
  -- the conjugate transpose of a letter is a power of i times that letter
  pub conjugated_lt : (l : ℕ) → l < 4 → conjugated M l < 16
  pub conjugated-letter : (l : ℕ) → l < 4 → letter_of (conjugated M l) ≡ l
  -- in each row a letter has one entry that is not zero, a power of i
  pub cell_right : (l x y : ℕ) → l < 4 → x < 2 → y < 2 → M l x y ≡ cond (eqb y (cell M l x % 2)) (i^ (cell M l x / 2)) 𝟘

-- each letter of M is a power of i times the letter of M' with the same code
pub record Converts (M M' : Letters) : Type 0 where
  pub converted_lt : (l : ℕ) → l < 4 → converted M M' l < 16
  pub converted-letter : (l : ℕ) → l < 4 → letter_of (converted M M' l) ≡ l

-- ---- what is found, for such letters

-- the product of two letters
pub times_right : (M : Letters) → Closed M → (l r : ℕ) → l < 4 → r < 4 → (x y : ℕ) → x < 2 → y < 2
    → product (M l) (M r) x y ≡ i^ (power_of (times M l r)) ⊗ M (letter_of (times M l r)) x y
unfolding times
times_right M C l r hl hr = as_letter_right M (product (M l) (M r)) (C.times_lt l r hl hr)

-- the conjugate transpose of a letter
pub conjugated_right : (M : Letters) → Closed M → (l : ℕ) → l < 4 → (x y : ℕ) → x < 2 → y < 2
    → adjoint (M l) x y ≡ i^ (power_of (conjugated M l)) ⊗ M (letter_of (conjugated M l)) x y
unfolding conjugated
conjugated_right M C l hl = as_letter_right M (adjoint (M l)) (C.conjugated_lt l hl)

-- a letter in other letters
pub converted_right : (M M' : Letters) → Converts M M' → (l : ℕ) → l < 4 → (x y : ℕ) → x < 2 → y < 2
    → M l x y ≡ i^ (power_of (converted M M' l)) ⊗ M' (letter_of (converted M M' l)) x y
unfolding converted
converted_right M M' C l hl = as_letter_right M' (M l) (C.converted_lt l hl)

-- ---- the same as tests

-- a code of the sixteen with the letter l
coded_test : ℕ → ℕ → Bool
coded_test l e = ltb e 16 && eqb (letter_of e) l

coded_lt : (l e : ℕ) → coded_test l e ≡ true → e < 16
unfolding coded_test
coded_lt l e h = ltb-true e 16 (and_left (ltb e 16) (eqb (letter_of e) l) h)

coded_letter : (l e : ℕ) → coded_test l e ≡ true → letter_of e ≡ l
unfolding coded_test
coded_letter l e h = eqb-true (letter_of e) l (and_right (ltb e 16) (eqb (letter_of e) l) h)

identity_test : Letters → Bool
identity_test M = every 2 (λ x. every 2 (λ y. eq_G (M 0 x y) (cond (eqb x y) 𝟙 𝟘)))

times_test : Letters → Bool
times_test M = every 4 (λ l. every 4 (λ r. ltb (times M l r) 16))

times_zero_test : Letters → Bool
times_zero_test M = every 4 (λ l. eqb (times M l 0) l)

zero_times_test : Letters → Bool
zero_times_test M = every 4 (λ l. eqb (times M 0 l) l)

conjugated_test : Letters → Bool
conjugated_test M = every 4 (λ l. coded_test l (conjugated M l))

entry_test : Letters → ℕ → ℕ → ℕ → Bool
entry_test M l x y = eq_G (M l x y) (cond (eqb y (cell M l x % 2)) (i^ (cell M l x / 2)) 𝟘)

row_test : Letters → Bool
row_test M = every 4 (λ l. every 2 (λ x. every 2 (entry_test M l x)))

converted_test : Letters → Letters → Bool
converted_test M M' = every 4 (λ l. coded_test l (converted M M' l))

-- ---- and computed

identity_test_lem : (kind : Kind) → identity_test (letters_of kind) ≡ true
unfolding identity_test every eq_G eqℤ letters_of pauli decoherence two_by_two 𝟘 𝟙
identity_test_lem Pauli = refl
identity_test_lem Decoherence = refl

times_test_lem : (kind : Kind) → times_test (letters_of kind) ≡ true
unfolding times_test times as_letter same scaled first_from every eq_G eqℤ product letters_of pauli decoherence two_by_two i^ ◌⊕◌ ◌⊗◌ 𝟘 𝟙 −𝟙 i⁺ i⁻
times_test_lem Pauli = refl
times_test_lem Decoherence = refl

times-zero_test : (kind : Kind) → times_zero_test (letters_of kind) ≡ true
unfolding times_zero_test times as_letter same scaled first_from every eq_G eqℤ product letters_of pauli decoherence two_by_two i^ ◌⊕◌ ◌⊗◌ 𝟘 𝟙 −𝟙 i⁺ i⁻
times-zero_test Pauli = refl
times-zero_test Decoherence = refl

zero-times_test : (kind : Kind) → zero_times_test (letters_of kind) ≡ true
unfolding zero_times_test times as_letter same scaled first_from every eq_G eqℤ product letters_of pauli decoherence two_by_two i^ ◌⊕◌ ◌⊗◌ 𝟘 𝟙 −𝟙 i⁺ i⁻
zero-times_test Pauli = refl
zero-times_test Decoherence = refl

conjugated_test_lem : (kind : Kind) → conjugated_test (letters_of kind) ≡ true
unfolding conjugated_test coded_test conjugated as_letter same scaled first_from every eq_G eqℤ adjoint conj letters_of pauli decoherence two_by_two i^ ◌⊗◌ 𝟘 𝟙 −𝟙 i⁺ i⁻
conjugated_test_lem Pauli = refl
conjugated_test_lem Decoherence = refl

row_test_lem : (kind : Kind) → row_test (letters_of kind) ≡ true
unfolding row_test entry_test cell first_from every eq_G eqℤ letters_of pauli decoherence two_by_two i^ ◌⊗◌ 𝟘 𝟙 −𝟙 i⁺ i⁻
row_test_lem Pauli = refl
row_test_lem Decoherence = refl

converted_test_lem : (kind kind' : Kind) → converted_test (letters_of kind) (letters_of kind') ≡ true
unfolding converted_test coded_test converted as_letter same scaled first_from every eq_G eqℤ letters_of pauli decoherence two_by_two i^ ◌⊗◌ 𝟘 𝟙 −𝟙 i⁺ i⁻
converted_test_lem Pauli Pauli = refl
converted_test_lem Pauli Decoherence = refl
converted_test_lem Decoherence Pauli = refl
converted_test_lem Decoherence Decoherence = refl

-- ---- carried to each entry

-- both kinds of letters have these facts
pub closed : (kind : Kind) → Closed (letters_of kind)
unfolding identity_test times_test times_zero_test zero_times_test conjugated_test entry_test row_test
closed kind =
    let M = letters_of kind in
    record {
      identity = λ x y hx hy. eq_G_true _ _ (every-both 2 2 (λ x y. eq_G (M 0 x y) (cond (eqb x y) 𝟙 𝟘)) (identity_test_lem kind) x y hx hy);
      times_lt = λ l r hl hr. ltb-true _ _ (every-both 4 4 (λ l r. ltb (times M l r) 16) (times_test_lem kind) l r hl hr);
      times_zero = λ l hl. eqb-true _ _ (every-at 4 (λ l. eqb (times M l 0) l) (times-zero_test kind) l hl);
      zero-times = λ l hl. eqb-true _ _ (every-at 4 (λ l. eqb (times M 0 l) l) (zero-times_test kind) l hl);
      conjugated_lt = λ l hl. coded_lt l (conjugated M l) (every-at 4 (λ l. coded_test l (conjugated M l)) (conjugated_test_lem kind) l hl);
      conjugated-letter = λ l hl. coded_letter l (conjugated M l) (every-at 4 (λ l. coded_test l (conjugated M l)) (conjugated_test_lem kind) l hl);
      cell_right = λ l x y hl hx hy. eq_G_true _ _ (every-both 2 2 (entry_test M l) (every-at 4 (λ l. every 2 (λ x. every 2 (entry_test M l x))) (row_test_lem kind) l hl) x y hx hy);
    }

-- each kind is the other kind up to powers of i
pub converts : (kind kind' : Kind) → Converts (letters_of kind) (letters_of kind')
unfolding converted_test
converts kind kind' =
    let e = converted (letters_of kind) (letters_of kind') in
    record {
      converted_lt = λ l hl. coded_lt l (e l) (every-at 4 (λ l. coded_test l (e l)) (converted_test_lem kind kind') l hl);
      converted-letter = λ l hl. coded_letter l (e l) (every-at 4 (λ l. coded_test l (e l)) (converted_test_lem kind kind') l hl);
    }
