-- The columns and powers of i that products contribute to a row, found from their masks: what `commutator_terms` and `noise_terms` scale.
-- Of the masks of a product that has the row (EntryLaws: `entry_inside`) these are its entries; of any other they stay in the matrix.
use Rattle.std.specs.Prelude.{ℕ, ◌+◌, ◌*◌, ◌/◌, ◌%◌, ◌^◌, List, [], ◌∷◌}
use Rattle.letters.specs.Matrices.{Letters, pauli, decoherence}
use Rattle.row_entries.specs.MaskEntries.{entry_from_masks}
use Rattle.row_entries.specs.PairColumns.{pair_column}

-- the column and the power of a row of the product with these masks
unfoldable pub operator_entry : Letters → ℕ → ℕ → ℕ → ℕ × ℕ
operator_entry M masks n r = ((entry_from_masks M masks r).0 % 2 ^ n, (entry_from_masks M masks r).1)

-- the two entries of a Pauli product with the masks p in a commutator's row r = (k, l)
unfoldable pub commutator_entries : ℕ → ℕ → ℕ → List (ℕ × ℕ)
commutator_entries p n r =
    let k = r / 2 ^ n in
    let l = r % 2 ^ n in
    let left = operator_entry pauli p n k in
    let b = (operator_entry pauli p n l).0 in
    (pair_column n left.0 l, (3 + left.1) % 4) ∷ (pair_column n k b, (1 + (operator_entry pauli p n b).1) % 4) ∷ []

-- the three entries of a pair (L, R) of decoherence products with the masks p and q in a noise row r = (k, l)
unfoldable pub noise_entries : ℕ → ℕ → ℕ → ℕ → List (ℕ × ℕ)
noise_entries p q n r =
    let k = r / 2 ^ n in
    let l = r % 2 ^ n in
    let jumpL = operator_entry decoherence p n k in
    let jumpR = operator_entry decoherence q n l in
    let m = (operator_entry decoherence q n k).0 in
    let m' = (operator_entry decoherence p n l).0 in
    (pair_column n jumpL.0 jumpR.0, (jumpL.1 + jumpR.1) % 4)
    ∷ (pair_column n (operator_entry decoherence p n m).0 l, (3 * (operator_entry decoherence q n m).1 + (operator_entry decoherence p n m).1) % 4)
    ∷ (pair_column n k (operator_entry decoherence q n m').0, (3 * (operator_entry decoherence q n m').1 + (operator_entry decoherence p n m').1) % 4) ∷ []
