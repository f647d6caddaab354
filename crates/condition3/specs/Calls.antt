-- Lists of calls, and the records that the entries give back, call after call, by the definitions that their contracts name.
-- Document 01, `The book for condition 3`: "A list consists of calls of `set` and `add_operator_product`, each on the Hamiltonian or the noise
-- set, and of `add_noise_from_full_operators`, refused ones included."
use Rattle.std.specs.Prelude.{List, [], ◌++◌, map, Float}
use Rattle.complex.specs.declared.Complex.{Complex}
use Rattle.items.specs.declared.Items.{Items}
use Rattle.condition3.specs.Runs.{run}
use Rattle.hamiltonians.specs.Reals as reals
use Rattle.hamiltonians.specs.RealAnswers.{set_real, add_real}
use Rattle.term_sets.specs.Complexes.{TermSet}
use Rattle.hamiltonians.specs.declared.PauliHamiltonian.{PauliHamiltonian}
use Rattle.noise_sets.specs.Pairs.{Key, NoiseSet}
use Rattle.noise_sets.specs.Pairs as pairs
use Rattle.noise_sets.specs.Answers.{set_pair, add_pair}
use Rattle.full_operators.specs.FullAnswers.{add_full_operators}

-- a call: "its name, which of the two sets it is on and its other arguments", as the entry takes them, valid or not
pub data Call : Type 0 where
  set_hamiltonian : Items → Float → Call
  add_hamiltonian : Items → Float → Call
  set_noise : Key → Complex → Call
  add_noise : Key → Complex → Call
  add_noise_from_full_operators : TermSet → TermSet → Complex → Call

-- the two sets
pub record Sets : Type 0 where
  pub hamiltonian : PauliHamiltonian
  pub noise : NoiseSet

-- "It starts from a Hamiltonian and a noise set that `new` gave"
abbrev pub new_sets : Sets
new_sets = record { hamiltonian = reals.filled []; noise = pairs.filled [] }

-- what a call leaves: "Each call gets its set as the last call on it gave it back, refused or not"
unfoldable pub called : Call → Sets → Sets
called (set_hamiltonian p x) s = record { hamiltonian = (set_real s.hamiltonian p x).1; noise = s.noise }
called (add_hamiltonian p x) s = record { hamiltonian = (add_real s.hamiltonian p x).1; noise = s.noise }
called (set_noise k z) s = record { hamiltonian = s.hamiltonian; noise = (set_pair s.noise k z).1 }
called (add_noise k z) s = record { hamiltonian = s.hamiltonian; noise = (add_pair s.noise k z).1 }
called (add_noise_from_full_operators l r v) s = record { hamiltonian = s.hamiltonian; noise = (add_full_operators s.noise l r v).1 }

-- the sets after a list of calls
unfoldable pub sets_after : List Call → Sets
sets_after calls = run called calls new_sets

-- "A system handed in that number 0 lets pass stands for the list that sets its terms in their order"
unfoldable pub calls_that_set : PauliHamiltonian → NoiseSet → List Call
calls_that_set h w =
    map (λ t. set_hamiltonian t.key t.coefficient) (reals.held_by h) ++ map (λ t. set_noise t.key t.coefficient) (pairs.held_by w)
