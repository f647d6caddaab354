-- Hamiltonians: the terms that a record holds, the record that holds given terms, and which records are valid.
-- Document 01: "Hamiltonian coefficients are real; their second part is answered as +0", and number 0.
use Rattle.std.specs.Prelude.{Bool, false, List, map, Float}
use Rattle.complex.specs.Coefficients.{reals}
use Rattle.complex.specs.Coefficients as coefficients
use Rattle.complex.specs.declared.Complex.{Complex}
use Rattle.items.specs.declared.Items.{Items}
use Rattle.terms.specs.Kind.{Terms}
use Rattle.term_sets.specs.Keys.{item_keys}
use Rattle.term_sets.specs.Sets as sets
use Rattle.term_sets.specs.Complexes.{Term, term_of}
use Rattle.term_sets.specs.declared.Term as terms
use Rattle.hamiltonians.specs.declared.PauliHamiltonian.{PauliHamiltonian}

abbrev pub RealTerm : Type 0
RealTerm = terms.Term Items Float

-- a real number as a complex one, its second part +0; and a term so
abbrev pub complex_of : Float → Complex
complex_of = coefficients.complex_of

abbrev pub complex_term : RealTerm → Term
complex_term t = term_of t.key (complex_of t.coefficient)

abbrev pub real_of : Items → Float → RealTerm
real_of = sets.term_of item_keys reals

-- terms of a product and a real coefficient
abbrev pub real_terms : Terms Items Float
real_terms = sets.terms item_keys reals

-- what stands past the count
abbrev pub blank : RealTerm
blank = sets.blank item_keys reals

-- the terms that a Hamiltonian holds, and the Hamiltonian that holds given terms
abbrev pub held_by : PauliHamiltonian → List RealTerm
held_by s = sets.held_by s.terms

abbrev pub filled : List RealTerm → PauliHamiltonian
filled l = record { terms = sets.filled item_keys reals l }

-- a coefficient of a held term: in range, and not zero
abbrev pub good_coefficient : Float → Bool
good_coefficient = sets.good_coefficient reals false

-- a held term: a valid product, a good coefficient, and no later term with its key
abbrev pub good_term : RealTerm → List RealTerm → Bool
good_term = sets.good_term item_keys reals false

-- a term of zeros, +0 in its float
abbrev pub is_blank : RealTerm → Bool
is_blank = sets.is_blank item_keys reals

-- what number 0 lets pass
abbrev pub valid_set : PauliHamiltonian → Bool
valid_set s = sets.valid_set item_keys reals false s.terms

-- a Hamiltonian's terms, with complex coefficients
abbrev pub hamiltonian_terms : PauliHamiltonian → List Term
hamiltonian_terms s = map complex_term (held_by s)
