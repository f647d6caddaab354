-- Sets of terms with complex coefficients: the kind of set, its terms, and which records are valid.
-- Document 01, `an array of 64 term records, each a product and its coefficient, with a count`, and number 0.
use Rattle.std.specs.Prelude.{Bool, List, map}
use Rattle.complex.specs.Complex.{product_of, conjugate_of, unit_of_I}
use Rattle.complex.specs.Coefficients.{complexes}
use Rattle.complex.specs.declared.Complex.{Complex}
use Rattle.items.specs.declared.Items.{Items}
use Rattle.terms.specs.Kind.{Terms, Products}
use Rattle.term_sets.specs.Keys.{item_keys}
use Rattle.term_sets.specs.Sets as sets
use Rattle.term_sets.specs.declared.Term as terms
use Rattle.term_sets.specs.declared.Set.{Set}

abbrev pub Term : Type 0
Term = terms.Term Items Complex

abbrev pub TermSet : Type 0
TermSet = Set Items Complex

abbrev pub term_of : Items → Complex → Term
term_of = sets.term_of item_keys complexes

-- terms of a product and a complex coefficient; sums are rounded, and a coefficient that is zero in both parts counts as zero
abbrev pub complex_terms : Terms Items Complex
complex_terms = sets.terms item_keys complexes

abbrev pub complex_products : Products Complex
complex_products = record { product = product_of; conjugate = conjugate_of; unit = unit_of_I }

-- what stands past the count
abbrev pub blank : Term
blank = sets.blank item_keys complexes

-- the terms that a set holds, and the set that holds given terms
abbrev pub held_by : TermSet → List Term
held_by s = sets.held_by s

abbrev pub filled : List Term → TermSet
filled = sets.filled item_keys complexes

-- a coefficient of a held term: in range, and not zero where zeros are not allowed
abbrev pub good_coefficient : Bool → Complex → Bool
good_coefficient = sets.good_coefficient complexes

-- a held term: a valid product, a good coefficient, and no later term with its key
abbrev pub good_term : Bool → Term → List Term → Bool
good_term = sets.good_term item_keys complexes

-- a term of zeros, +0 in its floats
abbrev pub is_blank : Term → Bool
is_blank = sets.is_blank item_keys complexes

-- what number 0 lets pass; only a `PauliOperator` may hold zeros
abbrev pub valid_set : Bool → TermSet → Bool
valid_set = sets.valid_set item_keys complexes

abbrev pub items_of : List Term → List Items
items_of l = map (λ t. t.key) l
