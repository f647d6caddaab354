-- Runs of steps: a state goes from one element to the next.
use Rattle.std.specs.Prelude.{List, [], ◌∷◌}

-- one step for each element, in their order
unfoldable pub run : {A O : Type 0} → (A → O → O) → List A → O → O
run f [] o = o
run f (x ∷ xs) o = run f xs (f x o)
