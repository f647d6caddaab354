-- `tables::product` meets its contract: that of the kind's own product.
-- Assumes nothing.
use Rattle.letters.specs.Matrices.{letters_of}
use Rattle.letters.proofs.tables.product.Goals as goal

pub returns-in-Pauli : goal.returns-in-Pauli
unfolding letters_of
returns-in-Pauli c = rw c.in-Pauli.is c.pauli_product.ensures

pub returns-in-Decoherence : goal.returns-in-Decoherence
unfolding letters_of
returns-in-Decoherence c = rw c.in-Decoherence.is c.decoherence_product.ensures
