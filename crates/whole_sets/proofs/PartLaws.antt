-- What the search for a part's whole number answers, read by its caller: whether there is one, and which, 0 where there is none.
-- Assumes nothing.
use mathlib.Core.Path.{◌≡◌, refl, ap, ◌∙◌}
use lib.IntN.{ℤ, pos}
use lib.Ieee.{Float}
use Rattle.std.specs.Prelude.{Option, Some, None, is_some}
use Rattle.std.specs.Option.{unwrap_or}
use Rattle.std.proofs.Math.Option.{get_or}
use Rattle.complex.specs.Wholes.{whole_of, is_whole, parts_of, said_whole}
use Rattle.complex.specs.Wholes as wholes

module _ (r : Option ℤ) (x : Float) (e : said_whole r ≡ whole_of x) where
  pub found_whole : is_some r ≡ is_whole x
  unfolding is_whole
  found_whole = go r ∙ ap wholes.is_some e
    where
      go : (r : Option ℤ) → is_some r ≡ wholes.is_some (said_whole r)
      go None = refl
      go (Some z) = refl

  pub found_parts : unwrap_or r (pos 0) ≡ parts_of x
  unfolding parts_of
  found_parts = go r ∙ ap (λ o. get_or o (pos 0)) e
    where
      go : (r : Option ℤ) → unwrap_or r (pos 0) ≡ get_or (said_whole r) (pos 0)
      go None = refl
      go (Some z) = refl
