-- A branch on the answer of a call: code calls a test, which answers b, its contract says that b is the test t, and `if !b` is left or taken.
-- Of two tests together one decides where it fails, and both must pass.
-- Assumes nothing.
use mathlib.Core.Path.{◌≡◌, sym, ◌∙◌}
use mathlib.Core.Bool.{Bool, true, false, not, ◌&&◌}
use borrow.Author.Tests.{not-true, not-false}
use Rattle.letters.proofs.TestLaws.{and_true, and_false}

pub passed : {b t : Bool} → b ≡ t → not b ≡ false → t ≡ true
passed {b} e f = sym e ∙ not-false b f

pub failed : {b t : Bool} → b ≡ t → not b ≡ true → t ≡ false
failed {b} e f = sym e ∙ not-true b f

pub failed_first : {b t : Bool} (u : Bool) → b ≡ t → not b ≡ true → (t && u) ≡ false
failed_first u e f = let g = failed e f in rw g

pub failed_second : {a b t u : Bool} → a ≡ t → b ≡ u → not b ≡ true → (t && u) ≡ false
failed_second {t = t} {u} e f g = and_false t u (failed f g)

pub passed_both : {a b t u : Bool} → a ≡ t → not a ≡ false → b ≡ u → not b ≡ false → (t && u) ≡ true
passed_both e f g h = and_true (passed e f) (passed g h)
