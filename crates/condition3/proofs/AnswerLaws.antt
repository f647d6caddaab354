-- The record that stands in an answer: what it has where each test before the answer refuses or lets pass.
-- Assumes nothing.
use Prim.Native.Nat.{ℕ}
use mathlib.Core.Path.{◌≡◌, refl, sym, subst}
use mathlib.Core.Bool.{Bool, true, false, not, cond}
use mathlib.Core.List.{List}
use Rattle.refusal.specs.Refusals.{Said, gives, refuses}

-- a test before an answer, which is refused where the test fails
pub past : {A R : Type 0} (P : R → Type 0) (b : Bool) (n : ℕ) (l : List ℕ) (s : R) (z : Said A × R) → (b ≡ false → P s) → (b ≡ true → P z.1) → P (cond (not b) (refuses n l, s) z).1
past P true n l s z f g = g refl
past P false n l s z f g = f refl

-- and where it passes
pub unless : {A R : Type 0} (P : R → Type 0) (b : Bool) (n : ℕ) (l : List ℕ) (s : R) (z : Said A × R) → (b ≡ true → P s) → (b ≡ false → P z.1) → P (cond b (refuses n l, s) z).1
unless P true n l s z f g = f refl
unless P false n l s z f g = g refl

-- what every accepted answer has, and the record that stands beside refusals, the second part has
pub either : {A R : Type 0} (P : R → Type 0) (s : R) (z : Said A × R) → ((o : A) (x : R) → z ≡ (gives o, x) → P x) → ((n : ℕ) (l : List ℕ) → z.0 ≡ refuses n l → z.1 ≡ s) → P s → P z.1
either P s z f g h = go z.0 refl
  where
    go : (y : Said _) → z.0 ≡ y → P z.1
    go (gives o) e = f o z.1 (λ j. (e j, z.1))
    go (refuses n l) e = subst P (sym (g n l e)) h
