-- Two lists compared place by place, of one length or of two; and two tests of which the second may be passed over.
-- Assumes nothing.
use Rattle.std.proofs.Common.{◌≡◌, Bool, true, false, List, [], ◌∷◌, ◌&&◌, refl, sym, ◌∙◌, ap, length, arith}
use Rattle.std.specs.List.{list_all, zip}
use Rattle.observations.specs.Records.{same_lists}

-- ---- two tests

-- the first passes, and the second decides
pub second_decides : {a b p q : Bool} → a ≡ p → a ≡ true → b ≡ q → b ≡ (p && q)
second_decides {a} {b} {p} {q} e t f = let h : p ≡ true = sym e ∙ t in rw h f

-- the first fails
pub first_fails : {p : Bool} (q : Bool) → p ≡ false → false ≡ (p && q)
first_fails q e = rw e

pub first_decides : {a p : Bool} (q : Bool) → a ≡ p → a ≡ false → a ≡ (p && q)
first_decides q e f = f ∙ first_fails q (sym e ∙ f)

-- ---- two lists

and_false : (a : Bool) → (a && false) ≡ false
and_false true = refl
and_false false = refl

module _ {A : Type 0} (same : A → A → Bool) where
  pub same_zip : (xs ys : List A) → length xs ≡ length ys → list_all (λ p. same p.0 p.1) (zip xs ys) ≡ same_lists same xs ys
  unfolding same_lists
  same_zip [] [] h = refl
  same_zip [] (y ∷ ys) h = absurd (omega (arith, h))
  same_zip (x ∷ xs) [] h = absurd (omega (arith, h))
  same_zip (x ∷ xs) (y ∷ ys) h = ap (λ b. same x y && b) (same_zip xs ys (omega (arith, h)))

  pub lengths_differ : (xs ys : List A) → (length xs ≡ length ys → ⊥) → false ≡ same_lists same xs ys
  unfolding same_lists
  lengths_differ [] [] h = absurd (h refl)
  lengths_differ [] (y ∷ ys) h = refl
  lengths_differ (x ∷ xs) [] h = refl
  lengths_differ (x ∷ xs) (y ∷ ys) h = sym (ap (λ b. same x y && b) (sym (lengths_differ xs ys (λ e. h (omega (arith, e))))) ∙ and_false (same x y))
