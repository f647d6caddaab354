-- What judging hands out of a set, against its terms with complex coefficients: a Hamiltonian's (`handed_terms`), and what the code finds of each term.
-- Assumes nothing.
use Prim.Native.Nat.{ℕ, ◌*◌, ◌^◌}
use mathlib.Core.Path.{◌≡◌, sym, ap, ◌∙◌}
use mathlib.Core.Bool.{false}
use mathlib.Core.List.{List, map, map-map}
use Rattle.std.specs.Prelude.{Some, Float}
use Rattle.complex.specs.Coefficients.{reals}
use Rattle.complex.specs.declared.Complex.{Complex}
use Rattle.terms.specs.Keyed.{concat_map}
use Rattle.terms.proofs.NestedLaws.{concat_map-map}
use Rattle.term_sets.specs.Keys.{item_keys}
use Rattle.term_sets.specs.Sets.{masked_term, masked_set}
use Rattle.term_sets.specs.Complexes.{Term, items_of}
use Rattle.term_sets.specs.declared.judging.MaskedTerm.{MaskedTerm}
use Rattle.arrayvec.specs.ArrayVec.{ArrayVec}
use Rattle.term_sets.proofs.HandedLaws.{handed_terms}
use Rattle.hamiltonians.specs.Reals.{complex_of, complex_term, held_by, hamiltonian_terms}
use Rattle.hamiltonians.specs.declared.PauliHamiltonian.{PauliHamiltonian}
use Rattle.noise_sets.specs.Pairs.{NoiseTerm, sides_of}
use Rattle.rows.specs.Floats.{floats}
use Rattle.outside_sites.specs.Accepted.{Accepted}
use Rattle.contributions.specs.Values.{commutator_values, noise_values}
use Rattle.contributions.specs.TermContributions.{commutator_contributions, noise_contributions}
use Rattle.contributions.proofs.ValueLaws.{commutators_lem, noises_lem}
use Rattle.open_rows.specs.Masked.{as_complex, masked, masked_pair}

pub hamiltonian_given : (s : PauliHamiltonian) {m : ArrayVec (MaskedTerm Float)} → Some m ≡ masked_set item_keys reals false s.terms → map as_complex m.items ≡ map masked (hamiltonian_terms s)
hamiltonian_given s e =
    ap (map as_complex) (handed_terms item_keys reals false s.terms e)
    ∙ map-map as_complex (masked_term item_keys reals) (held_by s)
    ∙ sym (map-map masked complex_term (held_by s))

module _ (n r : ℕ) where
  -- the contributions of masked terms
  abbrev pub commutator_given : MaskedTerm Float → List (ℕ × Complex)
  commutator_given t = commutator_values floats t.masks.left (complex_of t.coefficient) n r

  abbrev pub noise_given : MaskedTerm Complex → List (ℕ × Complex)
  noise_given t = noise_values floats t.masks.left t.masks.right t.coefficient n r

  -- are those of the terms
  pub commutators_given : (m : List (MaskedTerm Float)) (l : List Term) → map as_complex m ≡ map masked l → Accepted n (2 ^ n * 2 ^ n) r (items_of l)
      → concat_map commutator_given m ≡ commutator_contributions n r l
  unfolding commutator_contributions
  commutators_given m l e k =
      let f : MaskedTerm Complex → List (ℕ × Complex) = λ t. commutator_values floats t.masks.left t.coefficient n r in
      sym (concat_map-map as_complex f m) ∙ ap (concat_map f) e ∙ concat_map-map masked f l ∙ commutators_lem floats (λ c. c) n r l k

  pub noises_given : (m : List (MaskedTerm Complex)) (l : List NoiseTerm) → m ≡ map masked_pair l → Accepted n (2 ^ n * 2 ^ n) r (sides_of l) → concat_map noise_given m ≡ noise_contributions n r l
  unfolding noise_contributions
  noises_given m l e k = ap (concat_map noise_given) e ∙ concat_map-map masked_pair noise_given l ∙ noises_lem floats (λ c. c) n r l k
