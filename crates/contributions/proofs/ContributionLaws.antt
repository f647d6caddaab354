-- The contributions of a term to a row, from the entries of its products: scaled they are what `operator_terms`, `commutator_terms` and
-- `noise_terms` say. Assumes nothing.
use mathlib.Core.Path.{◌≡◌}
use mathlib.Core.List.{[], ◌∷◌, map}
use Prim.Native.Nat.{ℕ, ◌*◌, ◌/◌, ◌%◌, ◌^◌, ◌<◌}
use native.Mathlib.Nat.{mod-lt, div-lt_iff_lt-mul}
use lib.Pow.{pow_pos}
use Rattle.letters.specs.Matrices.{Letters, pauli, decoherence}
use Rattle.items.specs.Record.{letter_at}
use Rattle.items.specs.Masks.{masks_of}
use Rattle.items.specs.declared.Items.{Items}
use Rattle.master_equation.specs.Numbers.{Numbers}
use Rattle.master_equation.specs.Contributions.{operator_terms, commutator_terms, noise_terms}
use Rattle.row_entries.specs.Entries.{operator_entry, commutator_entries, noise_entries}
use Rattle.contributions.specs.Values.{whole_entry, jump_and_halves}
use Rattle.row_entries.proofs.EntryLaws.{entry_small, OfKind, pauli_kind, decoherence_kind, Within, column_inside, power_inside}

module _ {C N : Type 0} (A : Numbers C N) (c : C) where
  module _ (n : ℕ) where
    -- an operator's row
    pub operator_terms_lem : {M : Letters} → OfKind M → (p : Items) → Within n p → (r : ℕ) → r < 2 ^ n → operator_terms A n M r (letter_at p) c ≡ whole_entry A c (operator_entry M (masks_of p) n r) ∷ []
    unfolding operator_terms
    operator_terms_lem o p w r l = rw (column_inside o n p w r l, power_inside o n p w r l)

    module _ (r : ℕ) (l : r < 2 ^ n * 2 ^ n) where
      first_below : r / 2 ^ n < 2 ^ n
      first_below = (div-lt_iff_lt-mul (pow_pos n)).1 l

      second_below : r % 2 ^ n < 2 ^ n
      second_below = mod-lt r (pow_pos n)

      -- a commutator's row: both entries whole
      pub commutator_terms_lem : (p : Items) → Within n p → commutator_terms A n (r / 2 ^ n) (r % 2 ^ n) (letter_at p) c ≡ map (whole_entry A c) (commutator_entries (masks_of p) n r)
      unfolding commutator_terms commutator_entries
      commutator_terms_lem p w =
          let k = r / 2 ^ n in
          let b = (operator_entry pauli (masks_of p) n (r % 2 ^ n)).0 in
          rw (
            column_inside pauli_kind n p w k first_below,
            power_inside pauli_kind n p w k first_below,
            column_inside pauli_kind n p w (r % 2 ^ n) second_below,
            power_inside pauli_kind n p w b (entry_small pauli (masks_of p) n (r % 2 ^ n)).column,
          )

      -- a noise row: the jump whole, the halves by -1/2
      pub noise_terms_lem : (p q : Items) → Within n p → Within n q → noise_terms A n (r / 2 ^ n) (r % 2 ^ n) (letter_at p) (letter_at q) c ≡ jump_and_halves A c (noise_entries (masks_of p) (masks_of q) n r)
      unfolding noise_terms noise_entries
      noise_terms_lem p q w v =
          let k = r / 2 ^ n in
          let m = (operator_entry decoherence (masks_of q) n k).0 in
          let m' = (operator_entry decoherence (masks_of p) n (r % 2 ^ n)).0 in
          let m-below : m < 2 ^ n = (entry_small decoherence (masks_of q) n k).column in
          let m'-below : m' < 2 ^ n = (entry_small decoherence (masks_of p) n (r % 2 ^ n)).column in
          rw (
            column_inside decoherence_kind n p w k first_below,
            power_inside decoherence_kind n p w k first_below,
            column_inside decoherence_kind n q v (r % 2 ^ n) second_below,
            power_inside decoherence_kind n q v (r % 2 ^ n) second_below,
            column_inside decoherence_kind n q v k first_below,
            column_inside decoherence_kind n p w (r % 2 ^ n) second_below,
            column_inside decoherence_kind n p w m m-below,
            power_inside decoherence_kind n q v m m-below,
            power_inside decoherence_kind n p w m m-below,
            column_inside decoherence_kind n q v m' m'-below,
            power_inside decoherence_kind n q v m' m'-below,
            power_inside decoherence_kind n p w m' m'-below,
          )
