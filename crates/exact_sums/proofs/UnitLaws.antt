-- A number times a power of i, part by part: sizes stay, and the code turns a number as it should. Assumes nothing.
use Prim.Native.Nat.{ℕ, zero, suc, ◌%◌, ◌^◌, ◌<◌}
use native.Mathlib.Nat.{mod-lt}
use native.Mathlib.Omega.{arith}
use mathlib.Core.Path.{◌≡◌, sym, ap, ap₂, ◌∙◌}
use mathlib.Core.Bool.{true}
use lib.IntN.{ℤ, neg_ℤ, nat_abs, ◌+ℤ◌, +ℤ_idl, zero-*ℤ, neg_ℤ-neg_ℤ}
use Rattle.letters.specs.Gauss.{G, i⁺, ◌⊗◌, i^}
use Rattle.letters.proofs.GaussLaws.{G_path, one_*, ⊗_assoc, 𝟙_⊗, i^_mod, i^-zero}
use Rattle.exact_sums.specs.ExactSums.{whole, within}
use Rattle.exact_sums.specs.Wrapped.{turned_by, turned}
use Rattle.exact_sums.specs.declared.Halves.{Halves}
use Rattle.exact_sums.proofs.HalfLaws.{abs_neg, within-re, within-im, within_both, negated, number}

-- i (x + y i) = -y + x i
times_i : (x y : ℤ) → i⁺ ⊗ whole x y ≡ whole (neg_ℤ y) x
unfolding ◌⊗◌ i⁺
times_i x y =
    G_path
    (ap₂ (λ u v. u +ℤ neg_ℤ v) (zero-*ℤ x) (one_* y) ∙ +ℤ_idl (neg_ℤ y))
    (ap₂ ◌+ℤ◌ (zero-*ℤ y) (one_* x) ∙ +ℤ_idl x)

more : (k : ℕ) (c : G) → i^ (suc k) ⊗ c ≡ i⁺ ⊗ (i^ k ⊗ c)
unfolding i^
more k c = ⊗_assoc i⁺ (i^ k) c

unit_0 : (c : G) → i^ 0 ⊗ c ≡ c
unit_0 c = ap (λ (u : G). u ⊗ c) i^-zero ∙ 𝟙_⊗ c

unit_1 : (x y : ℤ) → i^ 1 ⊗ whole x y ≡ whole (neg_ℤ y) x
unit_1 x y = more 0 (whole x y) ∙ ap (λ (u : G). i⁺ ⊗ u) (unit_0 (whole x y)) ∙ times_i x y

unit_2 : (x y : ℤ) → i^ 2 ⊗ whole x y ≡ whole (neg_ℤ x) (neg_ℤ y)
unit_2 x y = more 1 (whole x y) ∙ ap (λ (u : G). i⁺ ⊗ u) (unit_1 x y) ∙ times_i (neg_ℤ y) x

unit_3 : (x y : ℤ) → i^ 3 ⊗ whole x y ≡ whole y (neg_ℤ x)
unit_3 x y = more 2 (whole x y) ∙ ap (λ (u : G). i⁺ ⊗ u) (unit_2 x y) ∙ times_i (neg_ℤ x) (neg_ℤ y) ∙ ap (λ (u : ℤ). whole u (neg_ℤ x)) (neg_ℤ-neg_ℤ y)

-- a power of i keeps the sizes
turned_within : (m : ℕ) (c : G) → within m c ≡ true → within m (i⁺ ⊗ c) ≡ true
turned_within m c e =
    ap (within m) (times_i c.re c.im)
    ∙ within_both m (whole (neg_ℤ c.im) c.re) (omega (arith, abs_neg c.im, within-im m c e)) (within-re m c e)

pub unit-within : (m k : ℕ) (c : G) → within m c ≡ true → within m (i^ k ⊗ c) ≡ true
unit-within m zero c e = ap (within m) (unit_0 c) ∙ e
unit-within m (suc k) c e = ap (within m) (more k c) ∙ turned_within m (i^ k ⊗ c) (unit-within m k c e)

-- a number whose negative fits is turned with no wrapping
module _ (z : Halves) (p : nat_abs z.re < 2 ^ 63) (q : nat_abs z.im < 2 ^ 63) where
  turned_by_exact : (k : ℕ) → k < 4 → number (turned_by k z) ≡ i^ k ⊗ number z
  turned_by_exact zero h = sym (unit_0 (number z))
  turned_by_exact (suc zero) h = ap (λ (u : ℤ). whole u z.re) (negated z.im q) ∙ sym (unit_1 z.re z.im)
  turned_by_exact (suc (suc zero)) h = ap₂ whole (negated z.re p) (negated z.im q) ∙ sym (unit_2 z.re z.im)
  turned_by_exact (suc (suc (suc zero))) h = ap (whole z.im) (negated z.re p) ∙ sym (unit_3 z.re z.im)
  turned_by_exact (suc (suc (suc (suc k)))) h = absurd (omega arith)

  pub turned_exact : (k : ℕ) → number (turned k z) ≡ i^ k ⊗ number z
  turned_exact k = turned_by_exact (k % 4) (mod-lt k (omega arith)) ∙ ap (λ (u : G). u ⊗ number z) (i^_mod k)
