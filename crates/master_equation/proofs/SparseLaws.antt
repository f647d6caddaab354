-- The columns of a product's matrix: column l is zero but at one row, the column at which row l is not zero; and decoherence products are real.
-- Both hold for any number of spins. Assumes nothing.
use mathlib.Core.Path.{◌≡◌, refl, sym, ◌∙◌, ap}
use mathlib.Core.Bool.{Bool, true, false, cond}
use mathlib.Core.Logic.{⊎_elim}
use Prim.Native.Nat.{ℕ, zero, suc, ◌+◌, ◌*◌, ◌%◌, ◌^◌, ◌<◌, ◌≤◌}
use native.Mathlib.Omega.{arith}
use native.Mathlib.Nat.{mod-eq_of_lt, eq-or-lt_of_le}
use borrow.Author.Tests.{eqb-true, eq-eqb}
use lib.Dec.{eqb}
use Rattle.letters.specs.Tests.{every, first_from}
use Rattle.letters.specs.Gauss.{G, 𝟘, 𝟙, −𝟙, i⁺, i⁻, ◌⊗◌, conj, i^, eqℤ, eq_G}
use Rattle.letters.specs.Sums.{total}
use Rattle.letters.specs.Matrices.{Letters, two_by_two, pauli, decoherence, letters_of, bit, matrix}
use Rattle.letters.specs.Single.{cell}
use Rattle.letters.specs.Rows.{column_of, row_power}
use Rattle.letters.specs.declared.Kind.{Kind}
use Rattle.letters.specs.declared.Kind.TheVariants.{Pauli, Decoherence}
use Rattle.letters.proofs.TestLaws.{bool_ext, and_left, and_right, every-at}
use Rattle.letters.proofs.GaussLaws.{conj-𝟘, conj-𝟙, conj-−𝟙}
use Rattle.letters.proofs.SumLaws.{Π_cong, conj_Π, total_cong_below}
use Rattle.letters.proofs.BitLaws.{bit_lt, binary_lt, binary_bits, eqb_parts}
use Rattle.letters.proofs.TableLaws.{closed}
use Rattle.letters.proofs.Letterings.{row-matrix}

-- ---- numbers by their bits

-- digits below 2 are known by the number they make
digits_known : (n : ℕ) (d e : ℕ → ℕ) → ((s : ℕ) → s < n → d s < 2) → ((s : ℕ) → s < n → e s < 2) → total (λ s. d s * 2 ^ s) n ≡ total (λ s. e s * 2 ^ s) n
    → (s : ℕ) → s < n → d s ≡ e s
unfolding total
digits_known zero d e hd he q s h = absurd (omega arith)
digits_known (suc n) d e hd he q s h =
    let low = total (λ s. d s * 2 ^ s) n in
    let low' = total (λ s. e s * 2 ^ s) n in
    let below = binary_lt n d (λ s l. hd s (omega arith)) in
    let below' = binary_lt n e (λ s l. he s (omega arith)) in
    let both = sym (eqb_parts (2 ^ n) low (d n) low' (e n) below below') ∙ eq-eqb (low + d n * 2 ^ n) (low' + e n * 2 ^ n) q in
    let b : s ≤ n = omega arith in
    ⊎_elim
    (λ p. ap d p ∙ eqb-true (d n) (e n) (and_right (eqb low low') (eqb (d n) (e n)) both) ∙ ap e (sym p))
    (λ p. digits_known n d e (λ s l. hd s (omega arith)) (λ s l. he s (omega arith)) (eqb-true low low' (and_left (eqb low low') (eqb (d n) (e n)) both)) s p)
    (eq-or-lt_of_le b)

-- the bits of a number made of n bits
pub bit_binary : (n : ℕ) (d : ℕ → ℕ) → ((s : ℕ) → s < n → d s < 2) → (s : ℕ) → s < n → bit s (total (λ s. d s * 2 ^ s) n) ≡ d s
bit_binary n d h =
    let k = total (λ s. d s * 2 ^ s) n in
    digits_known n (λ s. bit s k) d (λ s l. bit_lt s k) h (binary_bits n k ∙ mod-eq_of_lt (binary_lt n d h))

-- ---- the pattern of a product is symmetric

-- a letter's column, taken twice, gives the row back, for every letter and bit
back_test : Letters → Bool
back_test M = every 4 (λ l. every 2 (λ x. eqb (cell M l (cell M l x % 2) % 2) x))

back_test_lem : (kind : Kind) → back_test (letters_of kind) ≡ true
unfolding back_test cell first_from every eq_G eqℤ letters_of pauli decoherence two_by_two i^ ◌⊗◌ 𝟘 𝟙 −𝟙 i⁺ i⁻
back_test_lem Pauli = refl
back_test_lem Decoherence = refl

back : (kind : Kind) (l x : ℕ) → l < 4 → x < 2 → cell (letters_of kind) l (cell (letters_of kind) l x % 2) % 2 ≡ x
unfolding back_test
back kind l x hl hx =
    let M = letters_of kind in
    eqb-true _ _ (every-at 2 (λ x. eqb (cell M l (cell M l x % 2) % 2) x) (every-at 4 (λ l. every 2 (λ x. eqb (cell M l (cell M l x % 2) % 2) x)) (back_test_lem kind) l hl) x hx)

module _ (kind : Kind) (n : ℕ) (f : ℕ → ℕ) (hf : (s : ℕ) → s < n → f s < 4) where
  -- the column of the column is the row
  pub column_back : (r : ℕ) → r < 2 ^ n → column_of (letters_of kind) n f (column_of (letters_of kind) n f r) ≡ r
  unfolding column_of
  column_back r hr =
      let M = letters_of kind in
      let d : ℕ → ℕ = λ s. cell M (f s) (bit s r) % 2 in
      let k = total (λ s. d s * 2 ^ s) n in
      total_cong_below
      n
      (λ s. cell M (f s) (bit s k) % 2 * 2 ^ s)
      (λ s. bit s r * 2 ^ s)
      (λ s h. ap (λ x. x * 2 ^ s) (ap (λ x. cell M (f s) x % 2) (bit_binary n d (λ s h. low (cell M (f s) (bit s r))) s h) ∙ back kind (f s) (bit s r) (hf s h) (bit_lt s r)))
      ∙ binary_bits n r
      ∙ mod-eq_of_lt hr
    where
      low : (e : ℕ) → e % 2 < 2
      low e = omega arith

  -- so a row has column l exactly where it is the column of l
  pub column_row : (b l : ℕ) → b < 2 ^ n → l < 2 ^ n → eqb l (column_of (letters_of kind) n f b) ≡ eqb b (column_of (letters_of kind) n f l)
  column_row b l hb hl =
      let column = column_of (letters_of kind) n f in
      bool_ext
      (eqb l (column b))
      (eqb b (column l))
      (λ t. eq-eqb b (column l) (sym (column_back b hb) ∙ ap column (sym (eqb-true l (column b) t))))
      (λ t. eq-eqb l (column b) (sym (column_back l hl) ∙ ap column (sym (eqb-true b (column l) t))))

  -- column l of the matrix is zero but at one row, the column of l, where a power of i stands
  pub column_matrix : (b l : ℕ) → b < 2 ^ n → l < 2 ^ n
      → matrix (letters_of kind) n f b l ≡ cond (eqb b (column_of (letters_of kind) n f l)) (i^ (row_power (letters_of kind) n f (column_of (letters_of kind) n f l))) 𝟘
  column_matrix b l hb hl =
      let M = letters_of kind in
      row-matrix M (closed kind) n f hf b l hl ∙ ap (λ t. cond t (i^ (row_power M n f b)) 𝟘) (column_row b l hb hl) ∙ go (eqb b (column_of M n f l)) refl
    where
      go : (t : Bool) → eqb b (column_of (letters_of kind) n f l) ≡ t
          → cond t (i^ (row_power (letters_of kind) n f b)) 𝟘 ≡ cond t (i^ (row_power (letters_of kind) n f (column_of (letters_of kind) n f l))) 𝟘
      go true q = ap (λ r. i^ (row_power (letters_of kind) n f r)) (eqb-true b (column_of (letters_of kind) n f l) q)
      go false q = refl

-- ---- decoherence products are real

real_letter : (p q r s : G) → conj p ≡ p → conj q ≡ q → conj r ≡ r → conj s ≡ s → (x y : ℕ) → conj (two_by_two p q r s x y) ≡ two_by_two p q r s x y
unfolding two_by_two
real_letter p q r s hp hq hr hs zero zero = hp
real_letter p q r s hp hq hr hs zero (suc y) = hq
real_letter p q r s hp hq hr hs (suc x) zero = hr
real_letter p q r s hp hq hr hs (suc x) (suc y) = hs

letter_real : (l x y : ℕ) → conj (decoherence l x y) ≡ decoherence l x y
unfolding decoherence
letter_real zero = real_letter 𝟙 𝟘 𝟘 𝟙 conj-𝟙 conj-𝟘 conj-𝟘 conj-𝟙
letter_real (suc zero) = real_letter 𝟘 𝟙 𝟙 𝟘 conj-𝟘 conj-𝟙 conj-𝟙 conj-𝟘
letter_real (suc (suc zero)) = real_letter 𝟘 𝟙 −𝟙 𝟘 conj-𝟘 conj-𝟙 conj-−𝟙 conj-𝟘
letter_real (suc (suc (suc l))) = real_letter 𝟙 𝟘 𝟘 −𝟙 conj-𝟙 conj-𝟘 conj-𝟘 conj-−𝟙

pub decoherence_real : (n : ℕ) (f : ℕ → ℕ) (r c : ℕ) → conj (matrix decoherence n f r c) ≡ matrix decoherence n f r c
unfolding matrix
decoherence_real n f r c = conj_Π n (λ s. decoherence (f s) (bit s r) (bit s c)) ∙ Π_cong n (λ s. letter_real (f s) (bit s r) (bit s c))

-- ---- each kind by its name

pub pauli-row : (n : ℕ) (f : ℕ → ℕ) → ((s : ℕ) → s < n → f s < 4) → (r c : ℕ) → c < 2 ^ n
    → matrix pauli n f r c ≡ cond (eqb c (column_of pauli n f r)) (i^ (row_power pauli n f r)) 𝟘
unfolding letters_of
pauli-row = row-matrix pauli (closed Pauli)

pub decoherence-row : (n : ℕ) (f : ℕ → ℕ) → ((s : ℕ) → s < n → f s < 4) → (r c : ℕ) → c < 2 ^ n
    → matrix decoherence n f r c ≡ cond (eqb c (column_of decoherence n f r)) (i^ (row_power decoherence n f r)) 𝟘
unfolding letters_of
decoherence-row = row-matrix decoherence (closed Decoherence)

pub pauli_column : (n : ℕ) (f : ℕ → ℕ) → ((s : ℕ) → s < n → f s < 4) → (b l : ℕ) → b < 2 ^ n → l < 2 ^ n
    → matrix pauli n f b l ≡ cond (eqb b (column_of pauli n f l)) (i^ (row_power pauli n f (column_of pauli n f l))) 𝟘
unfolding letters_of
pauli_column = column_matrix Pauli

pub decoherence_column : (n : ℕ) (f : ℕ → ℕ) → ((s : ℕ) → s < n → f s < 4) → (b l : ℕ) → b < 2 ^ n → l < 2 ^ n
    → matrix decoherence n f b l ≡ cond (eqb b (column_of decoherence n f l)) (i^ (row_power decoherence n f (column_of decoherence n f l))) 𝟘
unfolding letters_of
decoherence_column = column_matrix Decoherence
