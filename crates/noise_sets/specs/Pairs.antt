-- Noise sets: the terms that a record holds, the record that holds given terms, and which records are valid.
-- Document 01, pauli_noise_operator.rs: "A key is a pair (L, R) of decoherence products, neither empty", and number 0.
use Rattle.std.specs.Prelude.{Bool, false, List, [], ◌∷◌}
use Rattle.complex.specs.Coefficients.{complexes}
use Rattle.complex.specs.declared.Complex.{Complex}
use Rattle.items.specs.declared.Items.{Items}
use Rattle.terms.specs.Keyed.{concat_map}
use Rattle.terms.specs.Kind.{Terms}
use Rattle.term_sets.specs.Keys.{pair_keys}
use Rattle.term_sets.specs.Keys as keys
use Rattle.term_sets.specs.Sets as sets
use Rattle.term_sets.specs.declared.Term as terms
use Rattle.term_sets.specs.declared.Set.{Set}

-- a pair of products
abbrev pub Key : Type 0
Key = keys.Key

abbrev pub NoiseTerm : Type 0
NoiseTerm = terms.Term Key Complex

abbrev pub NoiseSet : Type 0
NoiseSet = Set Key Complex

abbrev pub pair_of : Key → Complex → NoiseTerm
pair_of = sets.term_of pair_keys complexes

-- terms of a pair of products and a complex coefficient
abbrev pub pair_terms : Terms Key Complex
pair_terms = sets.terms pair_keys complexes

-- a product without sites
abbrev pub is_empty : Items → Bool
is_empty = keys.is_empty

-- what stands past the count
abbrev pub blank : NoiseTerm
blank = sets.blank pair_keys complexes

-- the terms that a set holds, and the set that holds given terms
abbrev pub held_by : NoiseSet → List NoiseTerm
held_by s = sets.held_by s

abbrev pub filled : List NoiseTerm → NoiseSet
filled = sets.filled pair_keys complexes

-- a key of a held term: two valid products, neither empty
abbrev pub good_key : Key → Bool
good_key = keys.good_key

-- a coefficient of a held term: in range, and not zero
abbrev pub good_coefficient : Complex → Bool
good_coefficient = sets.good_coefficient complexes false

-- a held term: a good key, a good coefficient, and no later term with its key
abbrev pub good_term : NoiseTerm → List NoiseTerm → Bool
good_term = sets.good_term pair_keys complexes false

-- a term of zeros, +0 in its floats
abbrev pub is_blank : NoiseTerm → Bool
is_blank = sets.is_blank pair_keys complexes

-- what number 0 lets pass
abbrev pub valid_set : NoiseSet → Bool
valid_set = sets.valid_set pair_keys complexes false

-- the products of terms, left side first
abbrev pub sides : NoiseTerm → List Items
sides t = t.key.0 ∷ t.key.1 ∷ []

unfoldable pub sides_of : List NoiseTerm → List Items
sides_of l = concat_map sides l
