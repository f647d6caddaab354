-- The Gaussian integers are a commutative ring, with a conjugation and the powers of i. `ruleset ring` rearranges sums and products.
-- Assumes nothing.
use mathlib.Core.Path.{◌≡◌, refl, sym, ◌∙◌, ap, ap₂}
use mathlib.Core.Bool.{true, false≢true}
use Prim.Native.Nat.{ℕ, zero, suc, ◌+◌, ◌*◌, ◌/◌, ◌%◌, ◌<◌}
use native.Mathlib.Omega.{arith}
use borrow.Author.Tests.{eqb-true, eq-eqb}
use lib.IntN.{ℤ, pos, negsuc, suc_ℤ, pred_ℤ, neg_ℤ, ◌+ℤ◌, ◌*ℤ◌, neg_ℤ-neg_ℤ, neg_ℤ-+ℤ, +ℤ_idl, +ℤ_idr, +ℤ_assoc, +ℤ_comm, +ℤ_invl, +ℤ_invr, zero-*ℤ, *ℤ-zero, *ℤ_comm, suc_ℤ-*ℤ, pred_ℤ-*ℤ, nat_abs}
use Rattle.letters.specs.Tests.{first_from}
use Rattle.letters.specs.Gauss.{G, 𝟘, 𝟙, −𝟙, i⁺, i⁻, ◌⊕◌, ⊝, ◌⊗◌, conj, i^, eqℤ, eq_G}
use Rattle.letters.proofs.TestLaws.{and_true, and_left, and_right}

-- ---- the laws of ℤ that the library leaves out

+ℤ_left_comm : (a b c : ℤ) → a +ℤ (b +ℤ c) ≡ b +ℤ (a +ℤ c)
+ℤ_left_comm a b c = sym (+ℤ_assoc a b c) ∙ ap (λ x. x +ℤ c) (+ℤ_comm a b) ∙ +ℤ_assoc b a c

+ℤ_four : (a b c d : ℤ) → (a +ℤ b) +ℤ (c +ℤ d) ≡ (a +ℤ c) +ℤ (b +ℤ d)
+ℤ_four a b c d = +ℤ_assoc a b (c +ℤ d) ∙ ap (λ x. a +ℤ x) (+ℤ_left_comm b c d) ∙ sym (+ℤ_assoc a c (b +ℤ d))

-- induction by one more and one less
ℤ_step : (P : ℤ → Type 0) → P (pos zero) → ((k : ℤ) → P k → P (suc_ℤ k)) → ((k : ℤ) → P k → P (pred_ℤ k)) → (k : ℤ) → P k
ℤ_step P z s p (pos zero) = z
ℤ_step P z s p (pos (suc n)) = s (pos n) (ℤ_step P z s p (pos n))
ℤ_step P z s p (negsuc zero) = p (pos zero) z
ℤ_step P z s p (negsuc (suc n)) = p (negsuc n) (ℤ_step P z s p (negsuc n))

*ℤ_distrib : (m j k : ℤ) → m *ℤ (j +ℤ k) ≡ m *ℤ j +ℤ m *ℤ k
*ℤ_distrib m j k =
    ℤ_step
    (λ m. m *ℤ (j +ℤ k) ≡ m *ℤ j +ℤ m *ℤ k)
    (zero-*ℤ (j +ℤ k) ∙ sym (ap₂ ◌+ℤ◌ (zero-*ℤ j) (zero-*ℤ k)))
    (λ m ih. suc_ℤ-*ℤ m (j +ℤ k) ∙ ap (λ x. x +ℤ (j +ℤ k)) ih ∙ +ℤ_four (m *ℤ j) (m *ℤ k) j k ∙ sym (ap₂ ◌+ℤ◌ (suc_ℤ-*ℤ m j) (suc_ℤ-*ℤ m k)))
    (λ m ih. pred_ℤ-*ℤ m (j +ℤ k) ∙ ap₂ ◌+ℤ◌ ih (neg_ℤ-+ℤ j k) ∙ +ℤ_four (m *ℤ j) (m *ℤ k) (neg_ℤ j) (neg_ℤ k) ∙ sym (ap₂ ◌+ℤ◌ (pred_ℤ-*ℤ m j) (pred_ℤ-*ℤ m k)))
    m

*ℤ_distrib_r : (j k m : ℤ) → (j +ℤ k) *ℤ m ≡ j *ℤ m +ℤ k *ℤ m
*ℤ_distrib_r j k m = *ℤ_comm (j +ℤ k) m ∙ *ℤ_distrib m j k ∙ ap₂ ◌+ℤ◌ (*ℤ_comm m j) (*ℤ_comm m k)

-- a number whose sum with m is zero is -m
neg_unique : (m k : ℤ) → m +ℤ k ≡ pos zero → k ≡ neg_ℤ m
neg_unique m k e = sym (+ℤ_idl k) ∙ ap (λ x. x +ℤ k) (sym (+ℤ_invl m)) ∙ +ℤ_assoc (neg_ℤ m) m k ∙ ap (λ x. neg_ℤ m +ℤ x) e ∙ +ℤ_idr (neg_ℤ m)

*ℤ_neg : (m k : ℤ) → m *ℤ neg_ℤ k ≡ neg_ℤ (m *ℤ k)
*ℤ_neg m k = neg_unique (m *ℤ k) (m *ℤ neg_ℤ k) (sym (*ℤ_distrib m k (neg_ℤ k)) ∙ ap (λ x. m *ℤ x) (+ℤ_invr k) ∙ *ℤ-zero m)

neg_*ℤ : (m k : ℤ) → neg_ℤ m *ℤ k ≡ neg_ℤ (m *ℤ k)
neg_*ℤ m k = *ℤ_comm (neg_ℤ m) k ∙ *ℤ_neg k m ∙ ap neg_ℤ (*ℤ_comm k m)

*ℤ_assoc : (a b c : ℤ) → (a *ℤ b) *ℤ c ≡ a *ℤ (b *ℤ c)
*ℤ_assoc a b c =
    ℤ_step
    (λ a. (a *ℤ b) *ℤ c ≡ a *ℤ (b *ℤ c))
    (ap (λ x. x *ℤ c) (zero-*ℤ b) ∙ zero-*ℤ c ∙ sym (zero-*ℤ (b *ℤ c)))
    (λ a ih. ap (λ x. x *ℤ c) (suc_ℤ-*ℤ a b) ∙ *ℤ_distrib_r (a *ℤ b) b c ∙ ap (λ x. x +ℤ b *ℤ c) ih ∙ sym (suc_ℤ-*ℤ a (b *ℤ c)))
    (λ a ih. ap (λ x. x *ℤ c) (pred_ℤ-*ℤ a b) ∙ *ℤ_distrib_r (a *ℤ b) (neg_ℤ b) c ∙ ap₂ ◌+ℤ◌ ih (neg_*ℤ b c) ∙ sym (pred_ℤ-*ℤ a (b *ℤ c)))
    a

*ℤ_left_comm : (a b c : ℤ) → a *ℤ (b *ℤ c) ≡ b *ℤ (a *ℤ c)
*ℤ_left_comm a b c = sym (*ℤ_assoc a b c) ∙ ap (λ x. x *ℤ c) (*ℤ_comm a b) ∙ *ℤ_assoc b a c

ruleset ring-ℤ = (*ℤ_distrib, *ℤ_distrib_r, *ℤ_neg, neg_*ℤ, neg_ℤ-+ℤ, neg_ℤ-neg_ℤ, +ℤ_assoc, +ℤ_comm, +ℤ_left_comm, *ℤ_assoc, *ℤ_comm, *ℤ_left_comm)

-- ---- the ring

-- two Gaussian integers with the same parts
pub G_path : {x y : G} → x.re ≡ y.re → x.im ≡ y.im → x ≡ y
G_path p q = λ i. record { re = p i; im = q i }

pub ⊕_assoc : (x y z : G) → (x ⊕ y) ⊕ z ≡ x ⊕ (y ⊕ z)
unfolding ◌⊕◌
⊕_assoc x y z = G_path (+ℤ_assoc x.re y.re z.re) (+ℤ_assoc x.im y.im z.im)

pub ⊕_comm : (x y : G) → x ⊕ y ≡ y ⊕ x
unfolding ◌⊕◌
⊕_comm x y = G_path (+ℤ_comm x.re y.re) (+ℤ_comm x.im y.im)

pub 𝟘_⊕ : (x : G) → 𝟘 ⊕ x ≡ x
unfolding ◌⊕◌ 𝟘
𝟘_⊕ x = G_path (+ℤ_idl x.re) (+ℤ_idl x.im)

pub ⊕_𝟘 : (x : G) → x ⊕ 𝟘 ≡ x
⊕_𝟘 x = ⊕_comm x 𝟘 ∙ 𝟘_⊕ x

pub ⊝_⊕ : (x : G) → ⊝ x ⊕ x ≡ 𝟘
unfolding ◌⊕◌ 𝟘 ⊝
⊝_⊕ x = G_path (+ℤ_invl x.re) (+ℤ_invl x.im)

pub ⊕_left_comm : (x y z : G) → x ⊕ (y ⊕ z) ≡ y ⊕ (x ⊕ z)
⊕_left_comm x y z = sym (⊕_assoc x y z) ∙ ap (λ w. w ⊕ z) (⊕_comm x y) ∙ ⊕_assoc y x z

pub ⊗_comm : (x y : G) → x ⊗ y ≡ y ⊗ x
unfolding ◌⊗◌
⊗_comm x y =
    G_path
    (ap₂ (λ u v. u +ℤ neg_ℤ v) (*ℤ_comm x.re y.re) (*ℤ_comm x.im y.im))
    (+ℤ_comm (x.re *ℤ y.im) (x.im *ℤ y.re) ∙ ap₂ ◌+ℤ◌ (*ℤ_comm x.im y.re) (*ℤ_comm x.re y.im))

assoc_re : (a b c d e f : ℤ)
    → (a *ℤ c +ℤ neg_ℤ (b *ℤ d)) *ℤ e +ℤ neg_ℤ ((a *ℤ d +ℤ b *ℤ c) *ℤ f) ≡ a *ℤ (c *ℤ e +ℤ neg_ℤ (d *ℤ f)) +ℤ neg_ℤ (b *ℤ (c *ℤ f +ℤ d *ℤ e))
assoc_re a b c d e f = simp ring-ℤ

assoc_im : (a b c d e f : ℤ) → (a *ℤ c +ℤ neg_ℤ (b *ℤ d)) *ℤ f +ℤ (a *ℤ d +ℤ b *ℤ c) *ℤ e ≡ a *ℤ (c *ℤ f +ℤ d *ℤ e) +ℤ b *ℤ (c *ℤ e +ℤ neg_ℤ (d *ℤ f))
assoc_im a b c d e f = simp ring-ℤ

pub ⊗_assoc : (x y z : G) → (x ⊗ y) ⊗ z ≡ x ⊗ (y ⊗ z)
unfolding ◌⊗◌
⊗_assoc x y z = G_path (assoc_re x.re x.im y.re y.im z.re z.im) (assoc_im x.re x.im y.re y.im z.re z.im)

pub ⊗_left_comm : (x y z : G) → x ⊗ (y ⊗ z) ≡ y ⊗ (x ⊗ z)
⊗_left_comm x y z = sym (⊗_assoc x y z) ∙ ap (λ w. w ⊗ z) (⊗_comm x y) ∙ ⊗_assoc y x z

distrib_re : (a b c d e f : ℤ) → a *ℤ (c +ℤ e) +ℤ neg_ℤ (b *ℤ (d +ℤ f)) ≡ (a *ℤ c +ℤ neg_ℤ (b *ℤ d)) +ℤ (a *ℤ e +ℤ neg_ℤ (b *ℤ f))
distrib_re a b c d e f = simp ring-ℤ

distrib_im : (a b c d e f : ℤ) → a *ℤ (d +ℤ f) +ℤ b *ℤ (c +ℤ e) ≡ (a *ℤ d +ℤ b *ℤ c) +ℤ (a *ℤ f +ℤ b *ℤ e)
distrib_im a b c d e f = simp ring-ℤ

pub ⊗_⊕ : (x y z : G) → x ⊗ (y ⊕ z) ≡ x ⊗ y ⊕ x ⊗ z
unfolding ◌⊗◌ ◌⊕◌
⊗_⊕ x y z = G_path (distrib_re x.re x.im y.re y.im z.re z.im) (distrib_im x.re x.im y.re y.im z.re z.im)

pub ⊕_⊗ : (x y z : G) → (x ⊕ y) ⊗ z ≡ x ⊗ z ⊕ y ⊗ z
⊕_⊗ x y z = ⊗_comm (x ⊕ y) z ∙ ⊗_⊕ z x y ∙ ap₂ ◌⊕◌ (⊗_comm z x) (⊗_comm z y)

-- once a whole number
pub one_* : (k : ℤ) → pos 1 *ℤ k ≡ k
one_* k = suc_ℤ-*ℤ (pos 0) k ∙ ap (λ x. x +ℤ k) (zero-*ℤ k) ∙ +ℤ_idl k

pub 𝟙_⊗ : (x : G) → 𝟙 ⊗ x ≡ x
unfolding ◌⊗◌ 𝟙
𝟙_⊗ x =
    G_path
    (ap₂ (λ u v. u +ℤ neg_ℤ v) (one_* x.re) (zero-*ℤ x.im) ∙ +ℤ_idr x.re)
    (ap₂ ◌+ℤ◌ (one_* x.im) (zero-*ℤ x.re) ∙ +ℤ_idr x.im)

pub ⊗_𝟙 : (x : G) → x ⊗ 𝟙 ≡ x
⊗_𝟙 x = ⊗_comm x 𝟙 ∙ 𝟙_⊗ x

pub 𝟘_⊗ : (x : G) → 𝟘 ⊗ x ≡ 𝟘
unfolding ◌⊗◌ 𝟘
𝟘_⊗ x = G_path (ap₂ (λ u v. u +ℤ neg_ℤ v) (zero-*ℤ x.re) (zero-*ℤ x.im)) (ap₂ ◌+ℤ◌ (zero-*ℤ x.im) (zero-*ℤ x.re))

pub ⊗_𝟘 : (x : G) → x ⊗ 𝟘 ≡ 𝟘
⊗_𝟘 x = ⊗_comm x 𝟘 ∙ 𝟘_⊗ x

pub ⊝-⊝ : (x : G) → ⊝ (⊝ x) ≡ x
unfolding ⊝
⊝-⊝ x = G_path (neg_ℤ-neg_ℤ x.re) (neg_ℤ-neg_ℤ x.im)

pub ⊝-𝟘 : ⊝ 𝟘 ≡ 𝟘
unfolding ⊝ 𝟘
⊝-𝟘 = refl

pub ⊝-𝟙 : ⊝ 𝟙 ≡ −𝟙
unfolding ⊝ 𝟙 −𝟙
⊝-𝟙 = refl

-- the negative of a sum
pub ⊝-sum : (x y : G) → ⊝ (x ⊕ y) ≡ ⊝ x ⊕ ⊝ y
unfolding ⊝ ◌⊕◌
⊝-sum x y = G_path (neg_ℤ-+ℤ x.re y.re) (neg_ℤ-+ℤ x.im y.im)

neg_re : (a b c d : ℤ) → neg_ℤ a *ℤ c +ℤ neg_ℤ (neg_ℤ b *ℤ d) ≡ neg_ℤ (a *ℤ c +ℤ neg_ℤ (b *ℤ d))
neg_re a b c d = simp ring-ℤ

neg_im : (a b c d : ℤ) → neg_ℤ a *ℤ d +ℤ neg_ℤ b *ℤ c ≡ neg_ℤ (a *ℤ d +ℤ b *ℤ c)
neg_im a b c d = simp ring-ℤ

-- a product with a negative
pub ⊝_⊗ : (x y : G) → ⊝ x ⊗ y ≡ ⊝ (x ⊗ y)
unfolding ⊝ ◌⊗◌
⊝_⊗ x y = G_path (neg_re x.re x.im y.re y.im) (neg_im x.re x.im y.re y.im)

pub ⊗_⊝ : (x y : G) → x ⊗ ⊝ y ≡ ⊝ (x ⊗ y)
⊗_⊝ x y = ⊗_comm x (⊝ y) ∙ ⊝_⊗ y x ∙ ap ⊝ (⊗_comm y x)

pub ruleset ring = (⊗_⊕, ⊕_⊗, ⊕_assoc, ⊕_comm, ⊕_left_comm, ⊗_assoc, ⊗_comm, ⊗_left_comm, 𝟘_⊕, ⊕_𝟘, 𝟘_⊗, ⊗_𝟘, 𝟙_⊗, ⊗_𝟙, ⊝_⊗, ⊗_⊝, ⊝-sum, ⊝-⊝, ⊝-𝟘)

-- two sums, and two products, rearranged
pub ⊕_four : (x y z w : G) → (x ⊕ y) ⊕ (z ⊕ w) ≡ (x ⊕ z) ⊕ (y ⊕ w)
⊕_four x y z w = simp ring

pub ⊗_four : (x y z w : G) → (x ⊗ y) ⊗ (z ⊗ w) ≡ (x ⊗ z) ⊗ (y ⊗ w)
⊗_four x y z w = simp ring

-- a common term goes from both sides
pub ⊕_cancel : (x y z : G) → x ⊕ y ≡ x ⊕ z → y ≡ z
⊕_cancel x y z e =
    sym (𝟘_⊕ y)
    ∙ ap (λ w. w ⊕ y) (sym (⊝_⊕ x))
    ∙ ⊕_assoc (⊝ x) x y
    ∙ ap (λ w. ⊝ x ⊕ w) e
    ∙ sym (⊕_assoc (⊝ x) x z)
    ∙ ap (λ w. w ⊕ z) (⊝_⊕ x)
    ∙ 𝟘_⊕ z

-- a factor that has an inverse
pub ⊗_cancel : (u v x y : G) → v ⊗ u ≡ 𝟙 → u ⊗ x ≡ u ⊗ y → x ≡ y
⊗_cancel u v x y h e = sym (undo x) ∙ ap (λ w. v ⊗ w) e ∙ undo y
  where
    undo : (x : G) → v ⊗ (u ⊗ x) ≡ x
    undo x = sym (⊗_assoc v u x) ∙ ap (λ w. w ⊗ x) h ∙ 𝟙_⊗ x

-- ---- equality as a test

eqℤ_true : (x y : ℤ) → eqℤ x y ≡ true → x ≡ y
unfolding eqℤ
eqℤ_true (pos m) (pos k) e = ap pos (eqb-true m k e)
eqℤ_true (pos m) (negsuc k) e = absurd (false≢true e)
eqℤ_true (negsuc m) (pos k) e = absurd (false≢true e)
eqℤ_true (negsuc m) (negsuc k) e = ap negsuc (eqb-true m k e)

eqℤ-same : (x : ℤ) → eqℤ x x ≡ true
unfolding eqℤ
eqℤ-same (pos m) = eq-eqb m m refl
eqℤ-same (negsuc m) = eq-eqb m m refl

-- numbers that pass the test are equal
pub eq_G_true : (x y : G) → eq_G x y ≡ true → x ≡ y
unfolding eq_G
eq_G_true x y e =
    G_path
    (eqℤ_true x.re y.re (and_left (eqℤ x.re y.re) (eqℤ x.im y.im) e))
    (eqℤ_true x.im y.im (and_right (eqℤ x.re y.re) (eqℤ x.im y.im) e))

-- a number passes the test with itself
pub eq_G-same : (x : G) → eq_G x x ≡ true
unfolding eq_G
eq_G-same x = and_true (eqℤ-same x.re) (eqℤ-same x.im)

-- ---- the conjugate

pub conj-conj : (x : G) → conj (conj x) ≡ x
unfolding conj
conj-conj x = G_path refl (neg_ℤ-neg_ℤ x.im)

pub conj_⊕ : (x y : G) → conj (x ⊕ y) ≡ conj x ⊕ conj y
unfolding conj ◌⊕◌
conj_⊕ x y = G_path refl (neg_ℤ-+ℤ x.im y.im)

conj-re : (a b c d : ℤ) → a *ℤ c +ℤ neg_ℤ (b *ℤ d) ≡ a *ℤ c +ℤ neg_ℤ (neg_ℤ b *ℤ neg_ℤ d)
conj-re a b c d = simp ring-ℤ

conj-im : (a b c d : ℤ) → neg_ℤ (a *ℤ d +ℤ b *ℤ c) ≡ a *ℤ neg_ℤ d +ℤ neg_ℤ b *ℤ c
conj-im a b c d = simp ring-ℤ

pub conj_⊗ : (x y : G) → conj (x ⊗ y) ≡ conj x ⊗ conj y
unfolding conj ◌⊗◌
conj_⊗ x y = G_path (conj-re x.re x.im y.re y.im) (conj-im x.re x.im y.re y.im)

pub conj-𝟘 : conj 𝟘 ≡ 𝟘
unfolding conj 𝟘
conj-𝟘 = refl

pub conj-𝟙 : conj 𝟙 ≡ 𝟙
unfolding conj 𝟙
conj-𝟙 = refl

pub conj-−𝟙 : conj −𝟙 ≡ −𝟙
unfolding conj −𝟙
conj-−𝟙 = refl

pub conj-i⁺ : conj i⁺ ≡ i⁻
unfolding conj i⁺ i⁻
conj-i⁺ = refl

-- ---- powers of i

pub i⁻⊗i⁺ : i⁻ ⊗ i⁺ ≡ 𝟙
unfolding i⁺ i⁻ 𝟙 ◌⊗◌
i⁻⊗i⁺ = refl

-- a product of powers of i
pub i^_add : (a b : ℕ) → i^ a ⊗ i^ b ≡ i^ (a + b)
unfolding i^
i^_add zero b = 𝟙_⊗ (i^ b) ∙ ap i^ (sum b)
  where
    sum : (b : ℕ) → b ≡ 0 + b
    sum b = omega arith
i^_add (suc a) b = ⊗_assoc i⁺ (i^ a) (i^ b) ∙ ap (λ x. i⁺ ⊗ x) (i^_add a b) ∙ ap i^ (sum a b)
  where
    sum : (a b : ℕ) → suc (a + b) ≡ suc a + b
    sum a b = omega arith

i^_four : i^ 4 ≡ 𝟙
unfolding i^ i⁺ 𝟙 ◌⊗◌
i^_four = refl

pub i^-zero : i^ 0 ≡ 𝟙
unfolding i^
i^-zero = refl

-- i^(4 q) = 1
pub i^_fours : (q : ℕ) → i^ (4 * q) ≡ 𝟙
i^_fours zero = i^-zero
i^_fours (suc q) = ap i^ (more q) ∙ sym (i^_add 4 (4 * q)) ∙ ap₂ ◌⊗◌ i^_four (i^_fours q) ∙ 𝟙_⊗ 𝟙
  where
    more : (q : ℕ) → 4 * suc q ≡ 4 + 4 * q
    more q = omega arith

-- a power of i goes by its remainder by 4
pub i^_mod : (k : ℕ) → i^ (k % 4) ≡ i^ k
i^_mod k = sym (𝟙_⊗ (i^ (k % 4))) ∙ ap (λ x. x ⊗ i^ (k % 4)) (sym (i^_fours (k / 4))) ∙ i^_add (4 * (k / 4)) (k % 4) ∙ ap i^ (parts k)
  where
    parts : (k : ℕ) → 4 * (k / 4) + k % 4 ≡ k
    parts k = omega arith

-- its inverse is its cube
pub i^-unit : (k : ℕ) → i^ (3 * k) ⊗ i^ k ≡ 𝟙
i^-unit k = i^_add (3 * k) k ∙ ap i^ (sum k) ∙ i^_fours k
  where
    sum : (k : ℕ) → 3 * k + k ≡ 4 * k
    sum k = omega arith

-- 1 is not 0
pub one_not_zero : 𝟙 ≡ 𝟘 → ⊥
unfolding 𝟙 𝟘
one_not_zero e = let p : ◌≡◌ {A = ℕ} 1 0 = ap (λ x. nat_abs x.re) e in omega arith

-- a power of i is not 0
pub i^_not_zero : (k : ℕ) → i^ k ≡ 𝟘 → ⊥
i^_not_zero k e = one_not_zero (sym (i^-unit k) ∙ ap (λ x. i^ (3 * k) ⊗ x) e ∙ ⊗_𝟘 (i^ (3 * k)))

-- the first of i^0 to i^3 that a number is
first_power : G → ℕ
first_power z = first_from (λ k. eq_G z (i^ k)) 4 0

-- of each of the four it is the power itself
first_power_lem : (k : ℕ) → k < 4 → first_power (i^ k) ≡ k
unfolding first_power first_from eq_G eqℤ i^ i⁺ 𝟙 ◌⊗◌
first_power_lem zero h = refl
first_power_lem (suc zero) h = refl
first_power_lem (suc (suc zero)) h = refl
first_power_lem (suc (suc (suc zero))) h = refl
first_power_lem (suc (suc (suc (suc k)))) h = absurd (omega arith)

-- i^j is i^k, with j and k from 0 to 3, only where j is k
pub i^-same : (j k : ℕ) → j < 4 → k < 4 → i^ j ≡ i^ k → j ≡ k
i^-same j k hj hk e = sym (first_power_lem j hj) ∙ ap first_power e ∙ first_power_lem k hk

-- also where both stand before another power of i
pub i^-same_beside : (a j k : ℕ) → j < 4 → k < 4 → i^ j ⊗ i^ a ≡ i^ k ⊗ i^ a → j ≡ k
i^-same_beside a j k hj hk e = i^-same j k hj hk (sym (alone j) ∙ ap (λ x. i^ (3 * a) ⊗ x) e ∙ alone k)
  where
    alone : (j : ℕ) → i^ (3 * a) ⊗ (i^ j ⊗ i^ a) ≡ i^ j
    alone j = ap (λ x. i^ (3 * a) ⊗ x) (⊗_comm (i^ j) (i^ a)) ∙ sym (⊗_assoc (i^ (3 * a)) (i^ a) (i^ j)) ∙ ap (λ x. x ⊗ i^ j) (i^-unit a) ∙ 𝟙_⊗ (i^ j)

-- the conjugate of a power of i is its inverse
pub conj-i^ : (k : ℕ) → conj (i^ k) ≡ i^ (3 * k)
conj-i^ zero = ap conj i^-zero ∙ conj-𝟙 ∙ sym i^-zero
conj-i^ (suc k) = ap conj (suc_is k) ∙ conj_⊗ i⁺ (i^ k) ∙ ap₂ ◌⊗◌ (conj-i⁺ ∙ i⁻_is) (conj-i^ k) ∙ i^_add 3 (3 * k) ∙ ap i^ (more k)
  where
    suc_is : (k : ℕ) → i^ (suc k) ≡ i⁺ ⊗ i^ k
    suc_is k = unfold i^ in refl

    i⁻_is : i⁻ ≡ i^ 3
    i⁻_is = unfold i^ i⁺ i⁻ 𝟙 ◌⊗◌ in refl

    more : (k : ℕ) → 3 + 3 * k ≡ 3 * suc k
    more k = omega arith
