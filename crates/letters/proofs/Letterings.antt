-- Theorems on the matrices of letterings over any number of spins: products, conjugate transposes, conversions, joins and rows.
-- They hold for any letters with the facts `Closed` or `Converts` of TableLaws, which both kinds have. Assumes nothing.
use mathlib.Core.Path.{◌≡◌, refl, sym, ◌∙◌, ap, ap₂}
use mathlib.Core.Bool.{cond}
use mathlib.Core.Logic.{◌⊎◌, ⊎_elim}
use Prim.Native.Nat.{ℕ, zero, suc, ◌+◌, ◌*◌, ◌/◌, ◌%◌, ◌^◌, ◌<◌}
use native.Mathlib.Omega.{arith}
use native.Mathlib.Nat.{mod-eq_of_lt, zero-add, add-zero}
use borrow.Author.Tests.{eq-eqb}
use lib.Dec.{eqb}
use lib.Pow.{pow_pos}
use Rattle.letters.specs.Gauss.{G, 𝟘, 𝟙, ◌⊕◌, ◌⊗◌, conj, i^}
use Rattle.letters.specs.Sums.{Σ, Π, total}
use Rattle.letters.specs.Matrices.{Letters, bit, matrix, product, adjoint}
use Rattle.letters.specs.Single.{letter_of, power_of, times, conjugated, converted, cell}
use Rattle.letters.specs.Rows.{column_of, row_power}
use Rattle.letters.proofs.TestLaws.{eqb_sym}
use Rattle.letters.proofs.GaussLaws.{𝟙_⊗, ⊗_𝟙, 𝟘_⊗, ⊗_𝟘, 𝟘_⊕, ⊕_𝟘, i^-zero, i^_mod, i^_not_zero, i^-same_beside}
use Rattle.letters.proofs.SumLaws.{Π_cong_below, Π_mul, Π_i^, conj_Π, total-zero}
use Rattle.letters.proofs.BitLaws.{bit_lt, binary_lt, binary_bits, one_cell, tensor_product}
use Rattle.letters.proofs.TableLaws.{Closed, Converts, times_right, conjugated_right, converted_right}

-- ---- matrices spin by spin

-- letterings that agree below n have one matrix
pub matrix-same : (M : Letters) (n : ℕ) (f g : ℕ → ℕ) → ((s : ℕ) → s < n → f s ≡ g s) → (r c : ℕ) → matrix M n f r c ≡ matrix M n g r c
unfolding matrix
matrix-same M n f g e r c = Π_cong_below n (λ s. M (f s) (bit s r) (bit s c)) (λ s. M (g s) (bit s r) (bit s c)) (λ s h. ap (λ l. M l (bit s r) (bit s c)) (e s h))

-- the letters that have the identity matrix as letter 0
abbrev pub HasIdentity : Letters → Type 0
HasIdentity M = (x y : ℕ) → x < 2 → y < 2 → M 0 x y ≡ cond (eqb x y) 𝟙 𝟘

-- matrices at the spins that are powers of i times letters: together the sum of the powers and the matrix of those letters
pub sites_in_letters : (M : Letters) (n : ℕ) (A : ℕ → ℕ → ℕ → G) (k l : ℕ → ℕ) → ((s x y : ℕ) → s < n → x < 2 → y < 2 → A s x y ≡ i^ (k s) ⊗ M (l s) x y) → (r c : ℕ)
    → Π n (λ s. A s (bit s r) (bit s c)) ≡ i^ (total k n % 4) ⊗ matrix M n l r c
unfolding matrix
sites_in_letters M n A k l e r c =
    Π_cong_below
    n
    (λ s. A s (bit s r) (bit s c))
    (λ s. i^ (k s) ⊗ M (l s) (bit s r) (bit s c))
    (λ s h. e s (bit s r) (bit s c) h (bit_lt s r) (bit_lt s c))
    ∙ Π_mul n (λ s. i^ (k s)) (λ s. M (l s) (bit s r) (bit s c))
    ∙ ap (λ x. x ⊗ Π n (λ s. M (l s) (bit s r) (bit s c))) (Π_i^ n k)

-- ---- products, conjugate transposes, conversions

-- the product of two matrices
pub multiply-matrix : (M : Letters) → Closed M → (n : ℕ) (f g : ℕ → ℕ) → ((s : ℕ) → s < n → f s < 4) → ((s : ℕ) → s < n → g s < 4) → (r c : ℕ)
    → Σ (2 ^ n) (λ m. matrix M n f r m ⊗ matrix M n g m c) ≡ i^ (total (λ s. power_of (times M (f s) (g s))) n % 4) ⊗ matrix M n (λ s. letter_of (times M (f s) (g s))) r c
multiply-matrix M C n f g hf hg r c =
    matrices
    ∙ sites_in_letters M n (λ s. product (M (f s)) (M (g s))) (λ s. power_of (times M (f s) (g s))) (λ s. letter_of (times M (f s) (g s)))
    (λ s x y h hx hy. times_right M C (f s) (g s) (hf s h) (hg s h) x y hx hy) r c
  where
    matrices : Σ (2 ^ n) (λ m. matrix M n f r m ⊗ matrix M n g m c) ≡ Π n (λ s. product (M (f s)) (M (g s)) (bit s r) (bit s c))
    matrices = unfold matrix in tensor_product n (λ s. M (f s)) (λ s. M (g s)) r c

-- the conjugate transpose
pub conjugate-matrix : (M : Letters) → Closed M → (n : ℕ) (f : ℕ → ℕ) → ((s : ℕ) → s < n → f s < 4) → (r c : ℕ)
    → conj (matrix M n f c r) ≡ i^ (total (λ s. power_of (conjugated M (f s))) n % 4) ⊗ matrix M n (λ s. letter_of (conjugated M (f s))) r c
conjugate-matrix M C n f hf r c =
    entries
    ∙ sites_in_letters M n (λ s. adjoint (M (f s))) (λ s. power_of (conjugated M (f s))) (λ s. letter_of (conjugated M (f s)))
    (λ s x y h hx hy. conjugated_right M C (f s) (hf s h) x y hx hy) r c
  where
    entries : conj (matrix M n f c r) ≡ Π n (λ s. adjoint (M (f s)) (bit s r) (bit s c))
    entries = unfold matrix adjoint in conj_Π n (λ s. M (f s) (bit s c) (bit s r))

-- the same matrix in other letters
pub convert-matrix : (M M' : Letters) → Converts M M' → (n : ℕ) (f : ℕ → ℕ) → ((s : ℕ) → s < n → f s < 4) → (r c : ℕ)
    → matrix M n f r c ≡ i^ (total (λ s. power_of (converted M M' (f s))) n % 4) ⊗ matrix M' n (λ s. letter_of (converted M M' (f s))) r c
convert-matrix M M' C n f hf r c =
    entries
    ∙ sites_in_letters M' n (λ s. M (f s)) (λ s. power_of (converted M M' (f s))) (λ s. letter_of (converted M M' (f s)))
    (λ s x y h hx hy. converted_right M M' C (f s) (hf s h) x y hx hy) r c
  where
    entries : matrix M n f r c ≡ Π n (λ s. M (f s) (bit s r) (bit s c))
    entries = unfold matrix in refl

-- ---- joins

-- the identity on either side of a 2 by 2 matrix
identity_left : (I A : ℕ → ℕ → G) → ((x y : ℕ) → x < 2 → y < 2 → I x y ≡ cond (eqb x y) 𝟙 𝟘) → (x y : ℕ) → x < 2 → product I A x y ≡ A x y
unfolding product
identity_left I A e zero y hx = ap₂ (λ u v. u ⊗ A 0 y ⊕ v ⊗ A 1 y) (e 0 0 hx hx) (e 0 1 hx (omega arith)) ∙ ap₂ ◌⊕◌ (𝟙_⊗ (A 0 y)) (𝟘_⊗ (A 1 y)) ∙ ⊕_𝟘 (A 0 y)
identity_left I A e (suc zero) y hx = ap₂ (λ u v. u ⊗ A 0 y ⊕ v ⊗ A 1 y) (e 1 0 hx (omega arith)) (e 1 1 hx hx) ∙ ap₂ ◌⊕◌ (𝟘_⊗ (A 0 y)) (𝟙_⊗ (A 1 y)) ∙ 𝟘_⊕ (A 1 y)
identity_left I A e (suc (suc x)) y hx = absurd (omega arith)

identity_right : (A I : ℕ → ℕ → G) → ((x y : ℕ) → x < 2 → y < 2 → I x y ≡ cond (eqb x y) 𝟙 𝟘) → (x y : ℕ) → y < 2 → product A I x y ≡ A x y
unfolding product
identity_right A I e x zero hy = ap₂ (λ u v. A x 0 ⊗ u ⊕ A x 1 ⊗ v) (e 0 0 hy hy) (e 1 0 (omega arith) hy) ∙ ap₂ ◌⊕◌ (⊗_𝟙 (A x 0)) (⊗_𝟘 (A x 1)) ∙ ⊕_𝟘 (A x 0)
identity_right A I e x (suc zero) hy = ap₂ (λ u v. A x 0 ⊗ u ⊕ A x 1 ⊗ v) (e 0 1 (omega arith) hy) (e 1 1 hy hy) ∙ ap₂ ◌⊕◌ (⊗_𝟘 (A x 0)) (⊗_𝟙 (A x 1)) ∙ 𝟘_⊕ (A x 1)
identity_right A I e x (suc (suc y)) hy = absurd (omega arith)

-- the product of two matrices whose letterings have at each spin the letter 0 on one side: the lettering with the letters of both
pub join_matrix : (M : Letters) → HasIdentity M → (n : ℕ) (f g : ℕ → ℕ) → ((s : ℕ) → s < n → (f s ≡ 0) ⊎ (g s ≡ 0)) → (r c : ℕ)
    → Σ (2 ^ n) (λ m. matrix M n f r m ⊗ matrix M n g m c) ≡ matrix M n (λ s. f s + g s) r c
unfolding matrix
join_matrix M I n f g free r c =
    tensor_product n (λ s. M (f s)) (λ s. M (g s)) r c
    ∙ Π_cong_below
    n
    (λ s. product (M (f s)) (M (g s)) (bit s r) (bit s c))
    (λ s. M (f s + g s) (bit s r) (bit s c))
    (λ s h. ⊎_elim (left (f s) (g s) (bit s r) (bit s c) (bit_lt s r)) (right (f s) (g s) (bit s r) (bit s c) (bit_lt s c)) (free s h))
  where
    left : (l m x y : ℕ) → x < 2 → l ≡ 0 → product (M l) (M m) x y ≡ M (l + m) x y
    left l m x y hx e = ap (λ l. product (M l) (M m) x y) e ∙ identity_left (M 0) (M m) I x y hx ∙ ap (λ l. M l x y) (sym (zero-add m) ∙ ap (λ l. l + m) (sym e))

    right : (l m x y : ℕ) → y < 2 → m ≡ 0 → product (M l) (M m) x y ≡ M (l + m) x y
    right l m x y hy e = ap (λ m. product (M l) (M m) x y) e ∙ identity_right (M l) (M 0) I x y hy ∙ ap (λ l. M l x y) (sym (add-zero l) ∙ ap (λ m. l + m) (sym e))

-- the lettering with the letter 0 on each spin has the identity matrix
pub identity_matrix : (M : Letters) → HasIdentity M → (n : ℕ) (f : ℕ → ℕ) → ((s : ℕ) → s < n → f s ≡ 0) → (r c : ℕ) → r < 2 ^ n → c < 2 ^ n
    → matrix M n f r c ≡ cond (eqb r c) 𝟙 𝟘
unfolding matrix
identity_matrix M I n f e r c hr hc =
    one_cell n (λ s. M (f s) (bit s r)) (λ s. bit s r) (λ s. 0) (λ s h. bit_lt s r) at c
    ∙ ap₂ (λ x y. cond (eqb x y) (i^ (total (λ s. 0) n)) 𝟘) (mod-eq_of_lt hc) (binary_bits n r ∙ mod-eq_of_lt hr)
    ∙ ap₂ (λ t x. cond t x 𝟘) (eqb_sym c r) (ap i^ (total-zero n (λ s. 0) (λ s h. refl)) ∙ i^-zero)
  where
    at : (s y : ℕ) → s < n → y < 2 → M (f s) (bit s r) y ≡ cond (eqb y (bit s r)) (i^ 0) 𝟘
    at s y h hy = ap (λ l. M l (bit s r) y) (e s h) ∙ I (bit s r) y (bit_lt s r) hy ∙ ap₂ (λ t x. cond t x 𝟘) (eqb_sym (bit s r) y) (sym i^-zero)

-- ---- rows

-- the column is in the matrix
pub column_of_lt : (M : Letters) (n : ℕ) (f : ℕ → ℕ) (r : ℕ) → column_of M n f r < 2 ^ n
unfolding column_of
column_of_lt M n f r = binary_lt n (λ s. cell M (f s) (bit s r) % 2) (λ s h. go (cell M (f s) (bit s r)))
  where
    go : (e : ℕ) → e % 2 < 2
    go e = omega arith

-- a row is zero but at its column, where a power of i stands
pub row-matrix : (M : Letters) → Closed M → (n : ℕ) (f : ℕ → ℕ) → ((s : ℕ) → s < n → f s < 4) → (r c : ℕ) → c < 2 ^ n
    → matrix M n f r c ≡ cond (eqb c (column_of M n f r)) (i^ (row_power M n f r)) 𝟘
unfolding matrix column_of row_power
row-matrix M C n f hf r c hc =
    one_cell
    n
    (λ s. M (f s) (bit s r))
    (λ s. cell M (f s) (bit s r) % 2)
    (λ s. cell M (f s) (bit s r) / 2)
    (λ s h. low (cell M (f s) (bit s r)))
    (λ s y h hy. C.cell_right (f s) (bit s r) y (hf s h) (bit_lt s r) hy)
    c
    ∙ ap₂
    (λ x u. cond (eqb x (total (λ s. cell M (f s) (bit s r) % 2 * 2 ^ s) n)) u 𝟘)
    (mod-eq_of_lt hc)
    (sym (i^_mod (total (λ s. cell M (f s) (bit s r) / 2) n)))
  where
    low : (e : ℕ) → e % 2 < 2
    low e = omega arith

-- what stands at the column
pub row_entry : (M : Letters) → Closed M → (n : ℕ) (f : ℕ → ℕ) → ((s : ℕ) → s < n → f s < 4) → (r : ℕ)
    → matrix M n f r (column_of M n f r) ≡ i^ (row_power M n f r)
row_entry M C n f hf r =
    let k = column_of M n f r in
    row-matrix M C n f hf r k (column_of_lt M n f r) ∙ ap (λ t. cond t (i^ (row_power M n f r)) 𝟘) (eq-eqb k k refl)

-- the entry at the column is not zero
pub row_not_zero : (M : Letters) → Closed M → (n : ℕ) (f : ℕ → ℕ) → ((s : ℕ) → s < n → f s < 4) → (r : ℕ) → matrix M n f r (column_of M n f r) ≡ 𝟘 → ⊥
row_not_zero M C n f hf r e = i^_not_zero (row_power M n f r) (sym (row_entry M C n f hf r) ∙ e)

-- a matrix that is i^k times that of a lettering is i^j times it for no other j from 0 to 3
pub one_power : (M : Letters) → Closed M → (n : ℕ) (f : ℕ → ℕ) → ((s : ℕ) → s < n → f s < 4) → (A : ℕ → ℕ → G) (j k : ℕ) → j < 4 → k < 4
    → ((r c : ℕ) → r < 2 ^ n → c < 2 ^ n → A r c ≡ i^ j ⊗ matrix M n f r c) → ((r c : ℕ) → r < 2 ^ n → c < 2 ^ n → A r c ≡ i^ k ⊗ matrix M n f r c) → j ≡ k
one_power M C n f hf A j k hj hk a b =
    let c = column_of M n f 0 in
    let same = sym (a 0 c (pow_pos n) (column_of_lt M n f 0)) ∙ b 0 c (pow_pos n) (column_of_lt M n f 0) in
    i^-same_beside (row_power M n f 0) j k hj hk (rw (row_entry M C n f hf 0) at same)
