-- What the code computes of whole numbers counted in halves: in signed 64-bit parts, each operation wrapped around. Of small numbers, as the
-- contributions of terms that number 11 lets pass are, none is (ExactLaws: `scaled_exact`, `minus_half_exact`, `row_exact`).
use Rattle.std.specs.Prelude.{ℕ, zero, suc, ◌%◌, ◌&&◌, ℤ, pos}
use Rattle.std.specs.Int.{w64, int_wrapping_add, int_wrapping_neg}
use Rattle.std.specs.Ordering.{int_eq}
use Rattle.master_equation.specs.Numbers.{Numbers}
use Rattle.rows.specs.Buffers.{TwoParts}
use Rattle.exact_sums.specs.declared.Halves.{Halves}

-- -x
abbrev pub minus : ℤ → ℤ
minus x = int_wrapping_neg w64 x

-- i^k times a number, by the remainder of k
abbrev pub turned_by : ℕ → Halves → Halves
turned_by zero z = z
turned_by (suc zero) z = record { re = minus z.im; im = z.re }
turned_by (suc (suc zero)) z = record { re = minus z.re; im = minus z.im }
turned_by (suc (suc (suc k))) z = record { re = z.im; im = minus z.re }

abbrev pub turned : ℕ → Halves → Halves
turned k z = turned_by (k % 4) z

abbrev pub sum_of : Halves → Halves → Halves
sum_of x y = record { re = int_wrapping_add w64 x.re y.re; im = int_wrapping_add w64 x.im y.im }

abbrev pub minus_of : Halves → Halves
minus_of z = record { re = minus z.re; im = minus z.im }

abbrev pub wrapped : Numbers Halves Halves
wrapped =
    record {
      scaled = λ k c. sum_of (turned k c) (turned k c);
      minus_half = λ k c. minus_of (turned k c);
      sum = sum_of;
      is_zero = λ z. int_eq z.re (pos 0) && int_eq z.im (pos 0);
    }

-- both parts as they are delivered
abbrev pub halves_parts : TwoParts Halves ℤ
halves_parts = record { re = λ z. z.re; im = λ z. z.im }
