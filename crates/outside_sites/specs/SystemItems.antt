-- The products of an open system's terms, in the order in which 8 looks at them. Document 01: for 8 the Hamiltonian before the noise.
use Rattle.std.specs.Prelude.{List, ◌++◌}
use Rattle.items.specs.declared.Items.{Items}
use Rattle.term_sets.specs.Complexes.{Term}
use Rattle.noise_sets.specs.Pairs.{NoiseTerm}
use Rattle.term_sets.specs.Complexes as operators
use Rattle.noise_sets.specs.Pairs as noise

-- the products of terms, Hamiltonian before noise, left side first
abbrev pub system_items : List Term → List NoiseTerm → List Items
system_items h w = operators.items_of h ++ noise.sides_of w
