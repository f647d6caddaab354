-- What multiplying the terms answers.
use Rattle.std.proofs.Common.{◌∙◌, []}
use Rattle.letters.specs.Matrices.{letters_of, pauli}
use Rattle.terms.specs.Setting.{add_all}
use Rattle.term_sets.specs.Complexes.{filled, complex_terms}
use Rattle.term_sets.proofs.SetLaws.{held-from}
use Rattle.chains.specs.ChainAnswers.{ended, product_steps}
use Rattle.chains.specs.HamiltonianProducts.{multiply_reals}
use Rattle.chains.proofs.hamiltonian_product.multiply.Goals as goal

pub returns : goal.returns
unfolding multiply_reals letters_of
returns c =
    let l = held-from c.complex_terms.result _ c.complex_terms.ensures in
    let r = held-from c.complex_terms-2.result _ c.complex_terms-2.ensures in
    rw (← c.is_valid.ensures, c.if-not-is_valid.false, ← c.is_valid-else-not-is_valid.ensures, c.if-not-is_valid-2.false)
    (c.multiplied.ensures (filled []) ∙ λ j. ended (filled []) (add_all complex_terms (product_steps pauli (l j) (r j)) []))
