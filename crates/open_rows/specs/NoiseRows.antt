-- The rows of noise operators. Document 01, `Rows`: "Noise row: each pair gives, in this order, L(k,a) times R(l,b), then -1/2 of R†L on the left
-- half, then -1/2 of R†L on the right; zero sums kept."
use Rattle.std.specs.Prelude.{true, not, cond, List, [], ℕ, ◌*◌, ◌^◌}
use Rattle.refusal.specs.Refusals.{Said, refuses}
use Rattle.complex.specs.declared.Complex.{Complex}
use Rattle.rows.specs.Floats.{floats}
use Rattle.rows.specs.Placing.{row_in}
use Rattle.rows.specs.Calls.{checked_row}
use Rattle.noise_sets.specs.Pairs.{held_by, valid_set, sides_of}
use Rattle.noise.specs.declared.PauliLindbladNoiseOperator.{PauliLindbladNoiseOperator}
use Rattle.contributions.specs.TermContributions.{noise_contributions}

unfoldable pub noise_row : PauliLindbladNoiseOperator → ℕ → ℕ → Said (List (ℕ × Complex))
noise_row s n r =
    cond (not (valid_set s.set)) (refuses 0 [])
    (checked_row n (2 ^ n * 2 ^ n) r (sides_of (held_by s.set)) (row_in floats true (noise_contributions n r (held_by s.set))))
