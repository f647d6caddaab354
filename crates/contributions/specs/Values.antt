-- The contributions of a term to a row, found from its masks: over any numbers.
-- Of the masks of products that have the row (ValueLaws: `commutator_values_lem`, `noise_values_lem`) they are those of the term.
use Rattle.std.specs.Prelude.{ℕ, min, List, [], ◌∷◌, map}
use Rattle.row_entries.specs.Answers.{most_spins}
use Rattle.row_entries.specs.Entries.{commutator_entries, noise_entries}
use Rattle.master_equation.specs.Numbers.{Numbers}

module _ {C N : Type 0} (A : Numbers C N) where
  -- an entry as a contribution: i^k times the coefficient, and i^k times -1/2 times the coefficient
  abbrev pub whole_entry : C → ℕ × ℕ → ℕ × N
  whole_entry c e = (e.0, A.scaled e.1 c)

  abbrev pub half_entry : C → ℕ × ℕ → ℕ × N
  half_entry c e = (e.0, A.minus_half e.1 c)

  -- the entries of a noise row: the first whole, the others by -1/2
  abbrev pub jump_and_halves : C → List (ℕ × ℕ) → List (ℕ × N)
  jump_and_halves c [] = []
  jump_and_halves c (jump ∷ rest) = whole_entry c jump ∷ map (half_entry c) rest

  -- of the Pauli product with the masks p to a commutator's row r over n spins: its left half, then its right half
  unfoldable pub commutator_values : ℕ → C → ℕ → ℕ → List (ℕ × N)
  commutator_values p c n r = map (whole_entry c) (commutator_entries p (min n most_spins) r)

  -- of the pair of decoherence products with the masks p and q to a noise row r over n spins
  unfoldable pub noise_values : ℕ → ℕ → C → ℕ → ℕ → List (ℕ × N)
  noise_values p q c n r = jump_and_halves c (noise_entries p q (min n most_spins) r)
