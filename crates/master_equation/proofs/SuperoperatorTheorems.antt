-- The contributions of a term add up to its entries: an operator's matrix, the commutator and the dissipator of the master equation, in halves,
-- for any number of spins; and their columns are in the row. Assumes nothing.
use mathlib.Core.Path.{◌≡◌, refl, sym, ◌∙◌, ap, ap₂}
use mathlib.Core.Bool.{Bool, true, false, ◌&&◌, cond}
use mathlib.Core.Logic.{⊎_elim}
use Prim.Native.Nat.{ℕ, zero, suc, ◌+◌, ◌*◌, ◌/◌, ◌%◌, ◌^◌, ◌<◌, ◌≤◌}
use native.Mathlib.Omega.{arith}
use native.Mathlib.Nat.{eq-or-lt_of_le}
use borrow.Author.Tests.{eqb-true, eq-eqb, ne_eqb}
use lib.Arith.{digits_lt, digits_div, digits_mod}
use lib.Dec.{eqb}
use Rattle.letters.specs.Gauss.{G, 𝟘, 𝟙, −𝟙, i⁺, i⁻, ◌⊕◌, ◌⊗◌, conj, i^}
use Rattle.letters.specs.Sums.{Σ}
use Rattle.letters.specs.Matrices.{pauli, decoherence, letters_of, matrix}
use Rattle.letters.specs.Rows.{column_of, row_power}
use Rattle.letters.specs.declared.Kind.{Kind}
use Rattle.letters.proofs.TestLaws.{and_true, and_left, and_right, bool_ext, eqb_sym}
use Rattle.letters.proofs.GaussLaws.{ring, ⊕_𝟘, 𝟘_⊕, 𝟙_⊗, 𝟘_⊗, ⊗_𝟘, conj-𝟘, conj-i^, i^_add, i^_mod}
use Rattle.letters.proofs.SumLaws.{Σ_cong_below, Σ_zero}
use Rattle.letters.proofs.TableLaws.{closed}
use Rattle.letters.proofs.Letterings.{row-matrix, column_of_lt}
use Rattle.master_equation.specs.Equation.{δ, 𝟚, commutator, adjoint_product, dissipator}
use Rattle.master_equation.specs.Numbers.{Numbers, halves}
use Rattle.row_entries.specs.PairColumns.{pair_column}
use Rattle.master_equation.specs.Contributions.{operator_terms, commutator_terms, noise_terms}
use Rattle.master_equation.specs.Sums.{Below, part_at, sum_at}
use Rattle.master_equation.proofs.SparseLaws.{pauli-row, pauli_column, decoherence-row, decoherence_column, decoherence_real}

-- ---- [k = a]

δ_sym : (k a : ℕ) → δ k a ≡ δ a k
unfolding δ
δ_sym k a = ap (λ t. cond t 𝟙 𝟘) (eqb_sym k a)

-- a number where a test passes, else 0
δ_cond : (k a : ℕ) (x : G) → cond (eqb k a) x 𝟘 ≡ δ k a ⊗ x
unfolding δ
δ_cond k a x = go (eqb k a)
  where
    go : (t : Bool) → cond t x 𝟘 ≡ cond t 𝟙 𝟘 ⊗ x
    go true = sym (𝟙_⊗ x)
    go false = sym (𝟘_⊗ x)

-- ---- pairs as columns

-- pairs with one column are the same pair
pub pair_column_known : (n a b x y : ℕ) → b < 2 ^ n → y < 2 ^ n → pair_column n a b ≡ pair_column n x y → (a ≡ x) × (b ≡ y)
pair_column_known n a b x y hb hy e =
    (sym (digits_div a hb) ∙ ap (λ c. c / 2 ^ n) e ∙ digits_div x hy, sym (digits_mod a hb) ∙ ap (λ c. c % 2 ^ n) e ∙ digits_mod x hy)

-- the column of a pair is in the row
pub pair_column_lt : (n a b : ℕ) → a < 2 ^ n → b < 2 ^ n → pair_column n a b < 2 ^ n * 2 ^ n
pair_column_lt n a b ha hb = digits_lt ha hb

pair_test : (n a b x y : ℕ) → b < 2 ^ n → y < 2 ^ n → eqb (pair_column n a b) (pair_column n x y) ≡ (eqb a x && eqb b y)
pair_test n a b x y hb hy =
    bool_ext
    (eqb (pair_column n a b) (pair_column n x y))
    (eqb a x && eqb b y)
    (λ t. let p = pair_column_known n a b x y hb hy (eqb-true (pair_column n a b) (pair_column n x y) t) in and_true (eq-eqb a x p.0) (eq-eqb b y p.1))
    (λ t. eq-eqb
    (pair_column n a b)
    (pair_column n x y)
    (ap₂ (pair_column n) (eqb-true a x (and_left (eqb a x) (eqb b y) t)) (eqb-true b y (and_right (eqb a x) (eqb b y) t))))

-- what a contribution to (x, y) gives at (a, b)
part_pair : (n a b x y : ℕ) (v : G) → b < 2 ^ n → y < 2 ^ n → part_at (pair_column n a b) (pair_column n x y, v) ≡ δ a x ⊗ (δ b y ⊗ v)
part_pair n a b x y v hb hy = ap (λ t. cond t v 𝟘) (pair_test n a b x y hb hy) ∙ go (eqb a x) ∙ δ_cond a x (cond (eqb b y) v 𝟘) ∙ ap (λ u. δ a x ⊗ u) (δ_cond b y v)
  where
    go : (t : Bool) → cond (t && eqb b y) v 𝟘 ≡ cond t (cond (eqb b y) v 𝟘) 𝟘
    go true = refl
    go false = refl

-- ---- powers of i

-- -i, i and a power of i times a power of i
three_and : (p : ℕ) → i^ ((3 + p) % 4) ≡ i⁻ ⊗ i^ p
three_and p = i^_mod (3 + p) ∙ sym (i^_add 3 p) ∙ ap (λ u. u ⊗ i^ p) (unfold i^ ◌⊗◌ i⁺ i⁻ 𝟙 in refl)

one_and : (p : ℕ) → i^ ((1 + p) % 4) ≡ i⁺ ⊗ i^ p
one_and p = i^_mod (1 + p) ∙ sym (i^_add 1 p) ∙ ap (λ u. u ⊗ i^ p) (unfold i^ ◌⊗◌ i⁺ 𝟙 in refl)

both_and : (p q : ℕ) → i^ ((p + q) % 4) ≡ i^ p ⊗ i^ q
both_and p q = i^_mod (p + q) ∙ sym (i^_add p q)

-- ---- operators

-- a term's contribution to row r of an operator is its matrix's row
pub operator_sum : (kind : Kind) (n : ℕ) (f : ℕ → ℕ) → ((s : ℕ) → s < n → f s < 4) → (r c' : ℕ) → c' < 2 ^ n → (c : G)
    → sum_at c' (operator_terms halves n (letters_of kind) r f c) ≡ 𝟚 ⊗ c ⊗ matrix (letters_of kind) n f r c'
unfolding sum_at operator_terms
operator_sum kind n f hf r c' h c =
    let M = letters_of kind in
    let p = row_power M n f r in
    let column = column_of M n f r in
    ⊕_𝟘 (cond (eqb c' column) (𝟚 ⊗ i^ p ⊗ c) 𝟘)
    ∙ δ_cond c' column (𝟚 ⊗ i^ p ⊗ c)
    ∙ sort (δ c' column) 𝟚 (i^ p) c
    ∙ sym (ap (λ u. 𝟚 ⊗ c ⊗ u) (row-matrix M (closed kind) n f hf r c' h ∙ δ_cond c' column (i^ p)))
  where
    sort : (d t x c : G) → d ⊗ (t ⊗ x ⊗ c) ≡ t ⊗ c ⊗ (d ⊗ x)
    sort d t x c = simp ring

-- ---- commutators

-- a term's contributions to row (k, l) of a commutator are its part of -i (H ρ - ρ H)
pub commutator-sum : (n : ℕ) (f : ℕ → ℕ) → ((s : ℕ) → s < n → f s < 4) → (k l a b : ℕ) → k < 2 ^ n → l < 2 ^ n → a < 2 ^ n → b < 2 ^ n → (c : G)
    → sum_at (pair_column n a b) (commutator_terms halves n k l f c) ≡ c ⊗ commutator n f k l a b
unfolding sum_at commutator_terms commutator
commutator-sum n f hf k l a b hk hl ha hb c =
    let x = column_of pauli n f k in
    let y = column_of pauli n f l in
    let p = row_power pauli n f k in
    let q = row_power pauli n f y in
    ap₂
    (λ u v. u ⊕ (v ⊕ 𝟘))
    (part_pair n a b x l (𝟚 ⊗ i^ ((3 + p) % 4) ⊗ c) hb hl ∙ ap (λ u. δ a x ⊗ (δ b l ⊗ (𝟚 ⊗ u ⊗ c))) (three_and p))
    (part_pair n a b k y (𝟚 ⊗ i^ ((1 + q) % 4) ⊗ c) hb (column_of_lt pauli n f l) ∙ ap (λ u. δ a k ⊗ (δ b y ⊗ (𝟚 ⊗ u ⊗ c))) (one_and q))
    ∙ sort (δ a x) (δ b l) (δ a k) (δ b y) 𝟚 i⁻ i⁺ (i^ p) (i^ q) c
    ∙ sym
    (ap₂
    (λ u v. c ⊗ (𝟚 ⊗ i⁻ ⊗ u ⊕ 𝟚 ⊗ i⁺ ⊗ v))
    (ap₂ ◌⊗◌ (pauli-row n f hf k a ha ∙ δ_cond a x (i^ p)) (δ_sym l b))
    (ap₂ ◌⊗◌ (δ_sym k a) (pauli_column n f hf b l hb hl ∙ δ_cond b y (i^ q))))
  where
    sort : (d e g h t j i p q c : G)
        → d ⊗ (e ⊗ (t ⊗ (j ⊗ p) ⊗ c)) ⊕ (g ⊗ (h ⊗ (t ⊗ (i ⊗ q) ⊗ c)) ⊕ 𝟘) ≡ c ⊗ (t ⊗ j ⊗ ((d ⊗ p) ⊗ e) ⊕ t ⊗ i ⊗ (g ⊗ (h ⊗ q)))
    sort d e g h t j i p q c = simp ring

-- ---- dissipators

-- a sum with one part that is not zero
pub Σ_single : (N j : ℕ) (h : ℕ → G) → j < N → Σ N (λ m. cond (eqb m j) (h m) 𝟘) ≡ h j
unfolding Σ
Σ_single zero j h l = absurd (omega arith)
Σ_single (suc N) j h l =
    let b : j ≤ N = omega arith in
    ⊎_elim
    (λ q. ap₂
    ◌⊕◌
    (Σ_cong_below N (λ m. cond (eqb m j) (h m) 𝟘) (λ m. 𝟘) (λ m g. ap (λ t. cond t (h m) 𝟘) (ne_eqb m j (λ r. omega arith))) ∙ Σ_zero N)
    (ap (λ t. cond t (h N) 𝟘) (eq-eqb N j (sym q)) ∙ ap h (sym q))
    ∙ 𝟘_⊕ (h j))
    (λ q. ap₂ ◌⊕◌ (Σ_single N j h q) (ap (λ t. cond t (h N) 𝟘) (ne_eqb N j (λ r. omega arith))) ∙ ⊕_𝟘 (h j))
    (eq-or-lt_of_le b)

-- conjugates and products of a number where a test passes, else 0
conj_cond : (t : Bool) (k : ℕ) → conj (cond t (i^ k) 𝟘) ≡ cond t (i^ (3 * k)) 𝟘
conj_cond true k = conj-i^ k
conj_cond false k = conj-𝟘

cond_left : (t : Bool) (x y : G) → cond t x 𝟘 ⊗ y ≡ cond t (x ⊗ y) 𝟘
cond_left true x y = refl
cond_left false x y = 𝟘_⊗ y

cond_right : (t : Bool) (x y : G) → x ⊗ cond t y 𝟘 ≡ cond t (x ⊗ y) 𝟘
cond_right true x y = refl
cond_right false x y = ⊗_𝟘 x

module _ (n : ℕ) (f g : ℕ → ℕ) (hf : (s : ℕ) → s < n → f s < 4) (hg : (s : ℕ) → s < n → g s < 4) where
  -- R† L at row k: R(m, k) is not zero at one m, and L(m, a) at one a
  pub adjoint-row : (k a : ℕ) → k < 2 ^ n → a < 2 ^ n
      → adjoint_product n f g k a
      ≡ δ a (column_of decoherence n f (column_of decoherence n g k))
      ⊗ i^ ((3 * row_power decoherence n g (column_of decoherence n g k) + row_power decoherence n f (column_of decoherence n g k)) % 4)
  unfolding adjoint_product
  adjoint-row k a hk ha =
      let m = column_of decoherence n g k in
      let p = row_power decoherence n g m in
      let q = row_power decoherence n f m in
      let x = column_of decoherence n f m in
      Σ_cong_below
      (2 ^ n)
      (λ j. conj (matrix decoherence n g j k) ⊗ matrix decoherence n f j a)
      (λ j. cond (eqb j m) (i^ (3 * p) ⊗ matrix decoherence n f j a) 𝟘)
      (λ j h. ap (λ u. u ⊗ matrix decoherence n f j a) (ap conj (decoherence_column n g hg j k h hk) ∙ conj_cond (eqb j m) p) ∙ cond_left (eqb j m) (i^ (3 * p)) (matrix decoherence n f j a))
      ∙ Σ_single (2 ^ n) m (λ j. i^ (3 * p) ⊗ matrix decoherence n f j a) (column_of_lt decoherence n g k)
      ∙ ap (λ u. i^ (3 * p) ⊗ u) (decoherence-row n f hf m a ha ∙ δ_cond a x (i^ q))
      ∙ sort (i^ (3 * p)) (δ a x) (i^ q)
      ∙ ap (λ u. δ a x ⊗ u) (sym (both_and (3 * p) q))
    where
      sort : (x d y : G) → x ⊗ (d ⊗ y) ≡ d ⊗ (x ⊗ y)
      sort x d y = simp ring

  -- R† L at column l: L(m, l) is not zero at one m, and R(m, b) at one b
  pub adjoint_column : (b l : ℕ) → b < 2 ^ n → l < 2 ^ n
      → adjoint_product n f g b l
      ≡ δ b (column_of decoherence n g (column_of decoherence n f l))
      ⊗ i^ ((3 * row_power decoherence n g (column_of decoherence n f l) + row_power decoherence n f (column_of decoherence n f l)) % 4)
  unfolding adjoint_product
  adjoint_column b l hb hl =
      let m = column_of decoherence n f l in
      let p = row_power decoherence n g m in
      let q = row_power decoherence n f m in
      let y = column_of decoherence n g m in
      Σ_cong_below
      (2 ^ n)
      (λ j. conj (matrix decoherence n g j b) ⊗ matrix decoherence n f j l)
      (λ j. cond (eqb j m) (conj (matrix decoherence n g j b) ⊗ i^ q) 𝟘)
      (λ j h. ap (λ u. conj (matrix decoherence n g j b) ⊗ u) (decoherence_column n f hf j l h hl) ∙ cond_right (eqb j m) (conj (matrix decoherence n g j b)) (i^ q))
      ∙ Σ_single (2 ^ n) m (λ j. conj (matrix decoherence n g j b) ⊗ i^ q) (column_of_lt decoherence n f l)
      ∙ ap (λ u. u ⊗ i^ q) (ap conj (decoherence-row n g hg m b hb) ∙ conj_cond (eqb b y) p ∙ δ_cond b y (i^ (3 * p)))
      ∙ sort (δ b y) (i^ (3 * p)) (i^ q)
      ∙ ap (λ u. δ b y ⊗ u) (sym (both_and (3 * p) q))
    where
      sort : (d x y : G) → (d ⊗ x) ⊗ y ≡ d ⊗ (x ⊗ y)
      sort d x y = simp ring

  -- a pair's contributions to row (k, l) are its part of L ρ R† - 1/2 R† L ρ - 1/2 ρ R† L
  pub noise-sum : (k l a b : ℕ) → k < 2 ^ n → l < 2 ^ n → a < 2 ^ n → b < 2 ^ n → (c : G)
      → sum_at (pair_column n a b) (noise_terms halves n k l f g c) ≡ c ⊗ dissipator n f g k l a b
  unfolding sum_at noise_terms dissipator
  noise-sum k l a b hk hl ha hb c =
      let m = column_of decoherence n g k in
      let m' = column_of decoherence n f l in
      let x = column_of decoherence n f k in
      let y = column_of decoherence n g l in
      let p = row_power decoherence n f k in
      let q = row_power decoherence n g l in
      let z = column_of decoherence n f m in
      let w = column_of decoherence n g m' in
      let left = i^ ((3 * row_power decoherence n g m + row_power decoherence n f m) % 4) in
      let right = i^ ((3 * row_power decoherence n g m' + row_power decoherence n f m') % 4) in
      ap₂
      ◌⊕◌
      (part_pair n a b x y (𝟚 ⊗ i^ ((p + q) % 4) ⊗ c) hb (column_of_lt decoherence n g l) ∙ ap (λ u. δ a x ⊗ (δ b y ⊗ (𝟚 ⊗ u ⊗ c))) (both_and p q))
      (ap₂ (λ u v. u ⊕ (v ⊕ 𝟘)) (part_pair n a b z l (−𝟙 ⊗ left ⊗ c) hb hl) (part_pair n a b k w (−𝟙 ⊗ right ⊗ c) hb (column_of_lt decoherence n g m')))
      ∙ sort (δ a x) (δ b y) (δ a z) (δ b l) (δ a k) (δ b w) 𝟚 −𝟙 (i^ p) (i^ q) left right c
      ∙ sym
      (ap₂
      (λ u v. c ⊗ (𝟚 ⊗ u ⊕ v))
      (ap₂ ◌⊗◌ (decoherence-row n f hf k a ha ∙ δ_cond a x (i^ p)) (decoherence_real n g l b ∙ decoherence-row n g hg l b hb ∙ δ_cond b y (i^ q)))
      (ap₂
      (λ u v. −𝟙 ⊗ u ⊕ −𝟙 ⊗ v)
      (ap₂ ◌⊗◌ (adjoint-row k a hk ha) (δ_sym l b))
      (ap₂ ◌⊗◌ (δ_sym k a) (adjoint_column b l hb hl))))
    where
      sort : (d e g h o s t m p q x y c : G)
          → d ⊗ (e ⊗ (t ⊗ (p ⊗ q) ⊗ c)) ⊕ (g ⊗ (h ⊗ (m ⊗ x ⊗ c)) ⊕ (o ⊗ (s ⊗ (m ⊗ y ⊗ c)) ⊕ 𝟘))
          ≡ c ⊗ (t ⊗ ((d ⊗ p) ⊗ (e ⊗ q)) ⊕ (m ⊗ ((g ⊗ x) ⊗ h) ⊕ m ⊗ (o ⊗ (s ⊗ y))))
      sort d e g h o s t m p q x y c = simp ring

-- ---- the columns are in the row, over any numbers

module _ {C N : Type 0} (A : Numbers C N) (n : ℕ) where
  pub commutator-below : (k l : ℕ) (f : ℕ → ℕ) (c : C) → k < 2 ^ n → l < 2 ^ n → Below (2 ^ n * 2 ^ n) (commutator_terms A n k l f c)
  unfolding commutator_terms Below
  commutator-below k l f c hk hl =
      (pair_column_lt n (column_of pauli n f k) l (column_of_lt pauli n f k) hl, (pair_column_lt n k (column_of pauli n f l) hk (column_of_lt pauli n f l), tt))

  pub noise-below : (k l : ℕ) (f g : ℕ → ℕ) (c : C) → k < 2 ^ n → l < 2 ^ n → Below (2 ^ n * 2 ^ n) (noise_terms A n k l f g c)
  unfolding noise_terms Below
  noise-below k l f g c hk hl =
      let m = column_of decoherence n g k in
      let m' = column_of decoherence n f l in (
        pair_column_lt n (column_of decoherence n f k) (column_of decoherence n g l) (column_of_lt decoherence n f k) (column_of_lt decoherence n g l),
        (
          pair_column_lt n (column_of decoherence n f m) l (column_of_lt decoherence n f m) hl,
          (pair_column_lt n k (column_of decoherence n g m') hk (column_of_lt decoherence n g m'), tt),
        ),
      )
