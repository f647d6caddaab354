-- The sets after a list of calls are valid, and hold the lines that the reference model has after it, in their order and to the bit.
-- Assumes nothing.
use mathlib.Core.Path.{◌≡◌, refl, ap, ◌∙◌}
use mathlib.Core.Bool.{true}
use mathlib.Core.List.{List, [], ◌∷◌}
use Rattle.items.specs.Record.{same_items, same_key}
use Rattle.condition3.specs.Runs.{run}
use Rattle.term_sets.specs.Sets.{filled}
use Rattle.hamiltonians.specs.Reals as reals
use Rattle.term_sets.specs.Complexes as operators
use Rattle.hamiltonians.proofs.RealValidLaws as real_valid
use Rattle.noise_sets.specs.Pairs as pairs
use Rattle.noise_sets.proofs.ValidLaws as pairs_valid
use Rattle.condition3.specs.Calls.{Call, set_hamiltonian, add_hamiltonian, set_noise, add_noise, add_noise_from_full_operators, Sets, new_sets, called, sets_after}
use Rattle.condition3.specs.ReferenceModel.{real_part, write_line, add_line, add_lines, unless_full, unless_refused, lawful_term, lawful_pair, lawful_operators, full_lines, Model, empty_model, noted, model_after}
use Rattle.condition3.proofs.HamiltonianLines.{real_lines, set_real-valid, add_real-valid, set_real_lines, add_real_lines}
use Rattle.condition3.proofs.NoiseLines.{noise_lines, set_pair-valid, add_pair-valid, set_pair_lines, add_pair_lines, full_set_valid, full_set_lines}

pub record Holds (s : Sets) (m : Model) : Type 0 where
  pub hamiltonian-valid : reals.valid_set s.hamiltonian ≡ true
  pub noise-valid : pairs.valid_set s.noise ≡ true
  pub hamiltonian : real_lines s.hamiltonian ≡ m.hamiltonian
  pub noise : noise_lines s.noise ≡ m.noise

holds_new : Holds new_sets empty_model
unfolding filled
holds_new = record { hamiltonian-valid = real_valid.empty-valid; noise-valid = pairs_valid.empty-valid; hamiltonian = refl; noise = refl }

holds_call : (c : Call) (s : Sets) (m : Model) → Holds s m → Holds (called c s) (noted c m)
unfolding called noted
holds_call (set_hamiltonian p x) s m h =
    let v = h.hamiltonian-valid in
    record {
      hamiltonian-valid = set_real-valid s.hamiltonian p x v;
      noise-valid = h.noise-valid;
      hamiltonian =
          set_real_lines s.hamiltonian p x v
          ∙ ap (λ l. unless_refused (lawful_term p x) (unless_full (write_line same_items p (real_part x) l)) l) h.hamiltonian;
      noise = h.noise;
    }
holds_call (add_hamiltonian p x) s m h =
    let v = h.hamiltonian-valid in
    record {
      hamiltonian-valid = add_real-valid s.hamiltonian p x v;
      noise-valid = h.noise-valid;
      hamiltonian =
          add_real_lines s.hamiltonian p x v
          ∙ ap (λ l. unless_refused (lawful_term p x) (unless_full (add_line same_items p (real_part x) l)) l) h.hamiltonian;
      noise = h.noise;
    }
holds_call (set_noise k z) s m h =
    let v = h.noise-valid in
    record {
      hamiltonian-valid = h.hamiltonian-valid;
      noise-valid = set_pair-valid s.noise v k z;
      hamiltonian = h.hamiltonian;
      noise = set_pair_lines s.noise v k z ∙ ap (λ l. unless_refused (lawful_pair k z) (unless_full (write_line same_key k z l)) l) h.noise;
    }
holds_call (add_noise k z) s m h =
    let v = h.noise-valid in
    record {
      hamiltonian-valid = h.hamiltonian-valid;
      noise-valid = add_pair-valid s.noise v k z;
      hamiltonian = h.hamiltonian;
      noise = add_pair_lines s.noise v k z ∙ ap (λ l. unless_refused (lawful_pair k z) (unless_full (add_line same_key k z l)) l) h.noise;
    }
holds_call (add_noise_from_full_operators l r z) s m h =
    let v = h.noise-valid in
    record {
      hamiltonian-valid = h.hamiltonian-valid;
      noise-valid = full_set_valid s.noise l r z v;
      hamiltonian = h.hamiltonian;
      noise =
          full_set_lines s.noise l r z v
          ∙ ap (λ x. unless_refused (lawful_operators l r z) (add_lines same_key (full_lines z (operators.held_by l) (operators.held_by r)) x) x) h.noise;
    }

holds_all : (cs : List Call) (s : Sets) (m : Model) → Holds s m → Holds (run called cs s) (run noted cs m)
unfolding run
holds_all [] s m h = h
holds_all (c ∷ cs) s m h = holds_all cs (called c s) (noted c m) (holds_call c s m h)

pub holds_after : (cs : List Call) → Holds (sets_after cs) (model_after cs)
unfolding sets_after model_after
holds_after cs = holds_all cs new_sets empty_model holds_new
