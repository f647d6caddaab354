-- The matrices of letterings are orthogonal, for both kinds of letters and any number n of spins: Tr(A† B) is 2^n where the letters are the same,
-- else 0. So the trace is 0 but for the identity. The factor 2^n can be cancelled.
-- Assumes nothing.
use mathlib.Core.Path.{◌≡◌, refl, sym, ◌∙◌, ap, ap₂}
use mathlib.Core.Bool.{Bool, true, false, ◌&&◌, cond}
use Prim.Native.Nat.{ℕ, zero, suc, ◌+◌, ◌^◌, ◌<◌}
use native.Mathlib.Omega.{arith}
use lib.Dec.{eqb}
use lib.IntN.{ℤ, pos, negsuc, nat_abs, ◌+ℤ◌, pos-ne-negsuc}
use Rattle.letters.specs.Tests.{every}
use Rattle.letters.specs.Gauss.{G, 𝟘, 𝟙, −𝟙, i⁺, i⁻, ◌⊕◌, ◌⊗◌, conj, eqℤ, eq_G}
use Rattle.letters.specs.Sums.{Σ, Π}
use Rattle.letters.specs.Matrices.{Letters, two_by_two, pauli, decoherence, letters_of, bit, matrix}
use Rattle.letters.specs.declared.Kind.{Kind}
use Rattle.letters.specs.declared.Kind.TheVariants.{Pauli, Decoherence}
use Rattle.letters.proofs.TestLaws.{every-at}
use Rattle.letters.proofs.GaussLaws.{G_path, ⊕_⊗, ⊗_assoc, ⊗_𝟙, ⊗_𝟘, 𝟙_⊗, 𝟘_⊗, eq_G_true}
use Rattle.letters.proofs.SumLaws.{Σ_cong, Π_cong_below, Π_mul, conj_Π}
use Rattle.letters.proofs.BitLaws.{line_sum}
use Rattle.letters.proofs.TableLaws.{closed}
use Rattle.letters.proofs.Letterings.{identity_matrix}
use Rattle.master_equation.specs.Equation.{δ, 𝟚}
use Rattle.superoperator.proofs.InnerLaws.{inner, inner_below}

-- ---- the factor 2^n

unfoldable pub dimension : ℕ → G
dimension n = Π n (λ s. 𝟚)

double_ℤ : (a b : ℤ) → a +ℤ a ≡ b +ℤ b → a ≡ b
double_ℤ (pos m) (pos k) e = let p : m + m ≡ k + k = ap nat_abs e in ap pos (omega arith)
double_ℤ (pos m) (negsuc k) e = absurd (pos-ne-negsuc (m + m) (suc (k + k)) e)
double_ℤ (negsuc m) (pos k) e = absurd (pos-ne-negsuc (k + k) (suc (m + m)) (sym e))
double_ℤ (negsuc m) (negsuc k) e = let p : suc (suc (m + m)) ≡ suc (suc (k + k)) = ap nat_abs e in ap negsuc (omega arith)

double : (x : G) → 𝟚 ⊗ x ≡ x ⊕ x
unfolding 𝟚
double x = ⊕_⊗ 𝟙 𝟙 x ∙ ap₂ ◌⊕◌ (𝟙_⊗ x) (𝟙_⊗ x)

-- a factor 2 goes from both sides
pub 𝟚_cancel : (x y : G) → 𝟚 ⊗ x ≡ 𝟚 ⊗ y → x ≡ y
unfolding ◌⊕◌
𝟚_cancel x y e =
    let d : x ⊕ x ≡ y ⊕ y = sym (double x) ∙ e ∙ double y in
    G_path (double_ℤ x.re y.re (ap (λ g. g.re) d)) (double_ℤ x.im y.im (ap (λ g. g.im) d))

-- and so does 2^n
pub dimension_cancel : (n : ℕ) (x y : G) → dimension n ⊗ x ≡ dimension n ⊗ y → x ≡ y
unfolding dimension Π
dimension_cancel zero x y e = sym (𝟙_⊗ x) ∙ e ∙ 𝟙_⊗ y
dimension_cancel (suc n) x y e =
    dimension_cancel n x y (𝟚_cancel (dimension n ⊗ x) (dimension n ⊗ y) (sym (⊗_assoc 𝟚 (dimension n) x) ∙ e ∙ ⊗_assoc 𝟚 (dimension n) y))

-- ---- one spin

-- the sum over two rows and two columns
abbrev site_sum : (ℕ → ℕ → G) → G
site_sum w = (w 0 0 ⊕ w 0 1) ⊕ (w 1 0 ⊕ w 1 1)

site_test : Letters → ℕ → ℕ → Bool
site_test M c e = eq_G (site_sum (λ x y. conj (M c x y) ⊗ M e x y)) (𝟚 ⊗ cond (eqb c e) 𝟙 𝟘)

-- all sixteen, computed
site_test_lem : (kind : Kind) → every 4 (λ c. every 4 (site_test (letters_of kind) c)) ≡ true
unfolding every site_test letters_of pauli decoherence two_by_two conj eq_G eqℤ 𝟚 𝟘 𝟙 −𝟙 i⁺ i⁻ ◌⊕◌ ◌⊗◌
site_test_lem Pauli = refl
site_test_lem Decoherence = refl

site_orthogonal : (kind : Kind) (c e : ℕ) → c < 4 → e < 4 → site_sum (λ x y. conj (letters_of kind c x y) ⊗ letters_of kind e x y) ≡ 𝟚 ⊗ cond (eqb c e) 𝟙 𝟘
unfolding site_test
site_orthogonal kind c e hc he =
    eq_G_true
    (site_sum (λ x y. conj (letters_of kind c x y) ⊗ letters_of kind e x y))
    (𝟚 ⊗ cond (eqb c e) 𝟙 𝟘)
    (every-at 4 (site_test (letters_of kind) c) (every-at 4 (λ c. every 4 (site_test (letters_of kind) c)) (site_test_lem kind) c hc) e he)

-- ---- n spins

-- a sum over all rows and columns of a product over the spins
tensor_sum : (n : ℕ) (W : ℕ → ℕ → ℕ → G) → Σ (2 ^ n) (λ r. Σ (2 ^ n) (λ c. Π n (λ s. W s (bit s r) (bit s c)))) ≡ Π n (λ s. site_sum (W s))
tensor_sum n W = Σ_cong (2 ^ n) (λ r. line_sum n (λ s. W s (bit s r))) ∙ line_sum n (λ s x. W s x 0 ⊕ W s x 1)

pub cond_⊗ : (a b : Bool) → cond a 𝟙 𝟘 ⊗ cond b 𝟙 𝟘 ≡ cond (a && b) 𝟙 𝟘
cond_⊗ true b = 𝟙_⊗ (cond b 𝟙 𝟘)
cond_⊗ false b = 𝟘_⊗ (cond b 𝟙 𝟘)

-- tests of each spin are one test
Π_every : (n : ℕ) (p : ℕ → Bool) → Π n (λ s. cond (p s) 𝟙 𝟘) ≡ cond (every n p) 𝟙 𝟘
unfolding Π every
Π_every zero p = refl
Π_every (suc n) p = ap (λ u. cond (p 0) 𝟙 𝟘 ⊗ u) (Π_every n (λ s. p (suc s))) ∙ cond_⊗ (p 0) (every n (λ s. p (suc s)))

module _ (kind : Kind) (n : ℕ) (f : ℕ → ℕ) (hf : (s : ℕ) → s < n → f s < 4) where
  pub orthogonal : (g : ℕ → ℕ) → ((s : ℕ) → s < n → g s < 4)
      → inner n (matrix (letters_of kind) n f) (matrix (letters_of kind) n g) ≡ dimension n ⊗ cond (every n (λ s. eqb (f s) (g s))) 𝟙 𝟘
  unfolding inner matrix dimension
  orthogonal g hg =
      let M = letters_of kind in
      Σ_cong
      (2 ^ n)
      (λ r. Σ_cong
      (2 ^ n)
      (λ c. ap (λ u. u ⊗ Π n (λ s. M (g s) (bit s r) (bit s c))) (conj_Π n (λ s. M (f s) (bit s r) (bit s c)))
      ∙ sym (Π_mul n (λ s. conj (M (f s) (bit s r) (bit s c))) (λ s. M (g s) (bit s r) (bit s c)))))
      ∙ tensor_sum n (λ s x y. conj (M (f s) x y) ⊗ M (g s) x y)
      ∙ Π_cong_below
      n
      (λ s. site_sum (λ x y. conj (M (f s) x y) ⊗ M (g s) x y))
      (λ s. 𝟚 ⊗ cond (eqb (f s) (g s)) 𝟙 𝟘)
      (λ s h. site_orthogonal kind (f s) (g s) (hf s h) (hg s h))
      ∙ Π_mul n (λ s. 𝟚) (λ s. cond (eqb (f s) (g s)) 𝟙 𝟘)
      ∙ ap (λ u. Π n (λ s. 𝟚) ⊗ u) (Π_every n (λ s. eqb (f s) (g s)))

  -- the inner product with the identity
  pub trace : inner n (matrix (letters_of kind) n f) δ ≡ dimension n ⊗ cond (every n (λ s. eqb (f s) 0)) 𝟙 𝟘
  unfolding δ
  trace =
      inner_below n (matrix (letters_of kind) n f) δ (matrix (letters_of kind) n (λ s. 0))
      (λ r c hr hc. sym (identity_matrix (letters_of kind) (closed kind).identity n (λ s. 0) (λ s h. refl) r c hr hc))
      ∙ orthogonal (λ s. 0) (λ s h. omega arith)

  -- it is 2^n where all letters are 0, and 0 where some are not
  pub trace_full : every n (λ s. eqb (f s) 0) ≡ true → inner n (matrix (letters_of kind) n f) δ ≡ dimension n
  trace_full e = trace ∙ ap (λ t. dimension n ⊗ cond t 𝟙 𝟘) e ∙ ⊗_𝟙 (dimension n)

  pub trace_none : every n (λ s. eqb (f s) 0) ≡ false → inner n (matrix (letters_of kind) n f) δ ≡ 𝟘
  trace_none e = trace ∙ ap (λ t. dimension n ⊗ cond t 𝟙 𝟘) e ∙ ⊗_𝟘 (dimension n)
