-- Rows over whole numbers counted in halves, in signed 64-bit parts: what a call that delivers such a row answers.
-- Document 01, `Rows`: "the same sums over whole numbers, counted in halves (signed 64-bit parts), zero sums left out".
use Rattle.std.specs.Prelude.{ℕ, ◌^◌, Bool, true, false, ◌&&◌, List, [], ◌∷◌, leb, ℤ, nat_abs, length}
use Rattle.refusal.specs.Refusals.{Said}
use Rattle.letters.specs.Gauss.{G}
use Rattle.master_equation.specs.Numbers.{halves}
use Rattle.rows.specs.Placing.{row_in}
use Rattle.rows.specs.Buffers.{TwoParts, most_entries}
use Rattle.rows.specs.Calls.{unless_malformed, RowCallIn}

-- the whole number x + y i
abbrev pub whole : ℤ → ℤ → G
whole x y = record { re = x; im = y }

abbrev pub whole_parts : TwoParts G ℤ
whole_parts = record { re = λ z. z.re; im = λ z. z.im }

-- ---- sizes that fit 64 bits

-- the largest part of a contribution: 320 of them stay below 2^63
abbrev pub largest_contribution : ℕ
largest_contribution = 2 ^ 52

-- both parts are at most m in size
unfoldable pub within : ℕ → G → Bool
within m z = leb (nat_abs z.re) m && leb (nat_abs z.im) m

-- every contribution is small enough
unfoldable pub all_small : List (ℕ × G) → Bool
all_small [] = true
all_small (x ∷ xs) = within largest_contribution x.1 && all_small xs

-- ---- what a call answers that is handed the contributions l: 0 where there are too many, or one is too large

unfoldable pub exact_answer : List (ℕ × G) → Said (List (ℕ × G))
exact_answer l = unless_malformed (leb (length l) most_entries && all_small l) (row_in halves false l)

abbrev pub ExactCall : Said (List (ℕ × G)) → Said ℕ → (a a' : List ℕ) (b b' c c' : List ℤ) → Type 0
ExactCall x r a a' b b' c c' = RowCallIn whole_parts x r a a' b b' c c'
