-- A number that is none of the NaN equals itself.
-- Assumes nothing.
use Rattle.std.proofs.Common.{◌≡◌, Bool, true, false, refl, sym, ◌∙◌, ap}
use mathlib.Core.Bool.{true≢false, not}
use lib.Ieee.{Float, nan, is_nan, eq, ne}
use lib.Ieee.Compare.{differs_from_itself}
use lib.Dec.{T}

pub equals_itself : (x : Float) → is_nan x ≡ false → eq x x ≡ true
unfolding ne is_nan
equals_itself x h = go (eq x x) refl
  where
    go : (b : Bool) → eq x x ≡ b → b ≡ true
    go true e = refl
    go false e = let t : T (ne x x) = rw e tt in absurd (true≢false (sym (ap is_nan (differs_from_itself x t)) ∙ h))
