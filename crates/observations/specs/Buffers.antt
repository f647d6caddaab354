-- Whether lent buffers hold what they held before a call. Document 01: "places past the count keep what they had".
use Rattle.std.specs.Prelude.{ℕ, Bool, List, drop}
use Rattle.std.specs.List.{list_all}

-- each place from n on passes a test
abbrev pub each_from : {A : Type 0} → (A → Bool) → ℕ → List A → Bool
each_from test n l = list_all test (drop n l)
