-- Exact rows of one contribution, computed: the largest that is added up, and the first that is refused. Assumes nothing.
use mathlib.Core.Path.{◌≡◌, refl}
use mathlib.Core.Bool.{true, false}
use mathlib.Core.List.{[], ◌∷◌}
use lib.IntN.{pos}
use Rattle.refusal.specs.Refusals.{gives, refuses}
use Rattle.letters.specs.Gauss.{𝟘, eqℤ, eq_G}
use Rattle.master_equation.specs.Numbers.{halves}
use Rattle.rows.specs.Calls.{unless_malformed}
use Rattle.rows.specs.Placing.{placed, place_all, row_of, nonzero, kept_by, row_in}
use Rattle.exact_sums.specs.ExactSums.{whole, within, all_small, exact_answer}

-- a contribution of 2^52 is small, one of 2^52 + 1 is not
largest_small : all_small ((5, whole (pos 4503599627370496) (pos 0)) ∷ []) ≡ true
unfolding all_small within
largest_small = refl

larger_not_small : all_small ((5, whole (pos 4503599627370497) (pos 0)) ∷ []) ≡ false
unfolding all_small within
larger_not_small = refl

-- the row of the former
largest_row : row_in halves false ((5, whole (pos 4503599627370496) (pos 0)) ∷ []) ≡ (5, whole (pos 4503599627370496) (pos 0)) ∷ []
unfolding row_in kept_by row_of place_all placed nonzero eq_G eqℤ 𝟘
largest_row = refl

-- a contribution of 2^52 is added up, and one of 2^52 + 1 is refused
largest_added : exact_answer ((5, whole (pos 4503599627370496) (pos 0)) ∷ []) ≡ gives ((5, whole (pos 4503599627370496) (pos 0)) ∷ [])
unfolding exact_answer all_small within unless_malformed row_in kept_by row_of place_all placed nonzero eq_G eqℤ 𝟘
largest_added = refl

large_refused : exact_answer ((5, whole (pos 4503599627370497) (pos 0)) ∷ []) ≡ refuses 0 []
unfolding exact_answer all_small within unless_malformed
large_refused = refl
