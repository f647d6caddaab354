-- A row of the code's numbers that is delivered, as the row of whole numbers that it says. Assumes nothing.
use Prim.Native.Nat.{ℕ}
use mathlib.Core.Path.{◌≡◌, refl, ap₂}
use mathlib.Core.List.{List, [], ◌∷◌, map}
use lib.IntN.{ℤ}
use lib.ListN.{length-map}
use Rattle.refusal.specs.Refusals.{Said, gives}
use Rattle.letters.specs.Gauss.{G}
use Rattle.rows.specs.Calls.{count_of, after, RowCallIn}
use Rattle.exact_sums.specs.ExactSums.{ExactCall}
use Rattle.exact_sums.specs.Wrapped.{halves_parts}
use Rattle.exact_sums.specs.Exact.{exact_pair}
use Rattle.exact_sums.specs.declared.Halves.{Halves}

parts : {B : Type 0} (f : ℕ × Halves → B) (g : ℕ × G → B) → ((e : ℕ × Halves) → f e ≡ g (exact_pair e)) → (l : List (ℕ × Halves)) → map f l ≡ map g (map exact_pair l)
parts f g e [] = refl
parts f g e (x ∷ xs) = ap₂ ◌∷◌ (e x) (parts f g e xs)

pub delivered_exact : (l : List (ℕ × Halves)) {r : Said ℕ} {a a' : List ℕ} {b b' c c' : List ℤ} → RowCallIn halves_parts (gives l) r a a' b b' c c' → ExactCall (gives (map exact_pair l)) r a a' b b' c c'
unfolding count_of after
delivered_exact l d =
    record {
      answer = rw length-map d.answer;
      columns = rw (length-map, ← parts (λ e. e.0) (λ e. e.0) (λ e. refl) l) d.columns;
      reals = rw (length-map, ← parts (λ e. e.1.re) (λ e. e.1.re) (λ e. refl) l) d.reals;
      imaginaries = rw (length-map, ← parts (λ e. e.1.im) (λ e. e.1.im) (λ e. refl) l) d.imaginaries;
    }
