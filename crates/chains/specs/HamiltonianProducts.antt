-- What Hamiltonians make as complex operators, their products and themselves: number 0 first, then a step's own refusal and 6, and 5 for what is
-- held at the end. Document 01: pauli_hamiltonian.rs, pauli_operator.rs and `Numbers of the no`.
use Rattle.std.specs.Prelude.{not, cond, [], map}
use Rattle.refusal.specs.Refusals.{Said, gives, refuses}
use Rattle.letters.specs.Matrices.{pauli}
use Rattle.terms.specs.Setting.{add_all}
use Rattle.term_sets.specs.Complexes.{complex_terms}
use Rattle.term_sets.specs.Complexes as complexes
use Rattle.chains.specs.ChainAnswers.{ended, product_steps}
use Rattle.hamiltonians.specs.Reals.{complex_term, held_by, valid_set}
use Rattle.term_sets.specs.Complexes.{TermSet}
use Rattle.hamiltonians.specs.declared.PauliHamiltonian.{PauliHamiltonian}

-- the product of two Hamiltonians, which is a PauliOperator; the empty operator stands beside a refusal
unfoldable pub multiply_reals : PauliHamiltonian → PauliHamiltonian → Said Unit × TermSet
multiply_reals s t =
    cond (not (valid_set s)) (refuses 0 [], complexes.filled [])
    (cond (not (valid_set t)) (refuses 0 [], complexes.filled [])
    (ended (complexes.filled []) (add_all complex_terms (product_steps pauli (map complex_term (held_by s)) (map complex_term (held_by t))) [])))

-- a Hamiltonian as a PauliOperator: its terms, added one after the other
unfoldable pub into_operator : PauliHamiltonian → Said Unit × TermSet
into_operator s =
    cond (not (valid_set s)) (refuses 0 [], complexes.filled [])
    (ended (complexes.filled []) (add_all complex_terms (map gives (map complex_term (held_by s))) []))
