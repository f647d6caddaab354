-- Laws of runs of steps.
-- Assumes nothing.
use mathlib.Core.Path.{◌≡◌, refl}
use mathlib.Core.List.{List, [], ◌∷◌, ◌++◌}
use Rattle.condition3.specs.Runs.{run}

-- some elements, then others
pub run_append : {A O : Type 0} (f : A → O → O) (l r : List A) (o : O) → run f (l ++ r) o ≡ run f r (run f l o)
unfolding run
run_append f [] r o = refl
run_append f (x ∷ l) r o = run_append f l r (f x o)
