-- Condition 3, proved: the statements are those of specs/Condition3.
-- Assumes nothing.
use Prim.Native.Nat.{ℕ}
use mathlib.Core.Path.{◌≡◌, refl, sym, ap, ap₂, subst, ◌∙◌}
use mathlib.Core.Bool.{Bool, true, false, not, ◌&&◌, cond, true≢false}
use mathlib.Core.List.{List, map-map}
use mathlib.Core.Logic.{◌↔◌}
use lib.Dec.{leb}
use Rattle.refusal.specs.Refusals.{Said, done}
use Rattle.letters.specs.Gauss.{G}
use Rattle.items.specs.Record.{reach, same_items, same_key}
use Rattle.items.specs.declared.Items.{Items}
use Rattle.terms.specs.Keyed.{each}
use Rattle.hamiltonians.specs.Reals as reals
use Rattle.hamiltonians.specs.declared.PauliHamiltonian.{PauliHamiltonian}
use Rattle.noise_sets.specs.Pairs.{Key, is_empty, NoiseSet}
use Rattle.noise_sets.specs.Pairs as pairs
use Rattle.noise.specs.declared.PauliLindbladNoiseOperator.{PauliLindbladNoiseOperator}
use Rattle.open_system.specs.declared.PauliLindbladOpenSystem.{PauliLindbladOpenSystem}
use Rattle.open_system.specs.Grouping.{valid_system, together, group_answer}
use Rattle.hamiltonians.specs.Reals.{hamiltonian_terms}
use Rattle.superoperator.specs.Systems.{SoundTerms, on_spins, pair_on_spins}
use Rattle.superoperator.proofs.Determined.{entries_determine}
use Rattle.complex.specs.Wholes.{both_whole}
use Rattle.master_equation.specs.Numbers.{halves}
use Rattle.rows.specs.Placing.{row_in}
use Rattle.exact_rows.specs.ExactRows.{exact_contributions, exact_row_entries}
use Rattle.exact_entries.specs.ExactEntries.{whole_hamiltonian, whole_noise}
use Rattle.exact_entries.proofs.RowValues.{whole_contributions, SameRows, rows_entries}
use Rattle.exact_entries.proofs.EntryTheorems as exact_entries
use Rattle.condition3.specs.Calls.{Call, sets_after, calls_that_set}
use Rattle.condition3.specs.ReferenceModel.{Line, Model, model_after}
use Rattle.condition3.specs.Condition3.{Premises, SameLines, SameModel, RowsAgree, system_after, GroupAccepts, Condition3, Source, made, handed_in, system_of, calls_of, Condition3HandedIn}
use Rattle.condition3.proofs.ModelLaws.{Holds, holds_after}
use Rattle.condition3.proofs.HamiltonianLines.{real_lines}
use Rattle.condition3.proofs.NoiseLines.{noise_lines}
use Rattle.condition3.proofs.HandedIn.{set_again}
use Rattle.condition3.proofs.WholeLines.{whole_line, whole_lines, lines_same}
use Rattle.condition3.proofs.SoundLines.{sound_hamiltonian, sound_noise, sound_fits, sound_pairs_fit}

-- ---- sound lines: rows, entries, terms, lines

module _ (n : ℕ) (h h' : List (Line Items)) (w w' : List (Line Key))
    (sh : SoundTerms same_items (on_spins n) (whole_lines h)) (sh' : SoundTerms same_items (on_spins n) (whole_lines h'))
    (sw : SoundTerms same_key (pair_on_spins n) (whole_lines w)) (sw' : SoundTerms same_key (pair_on_spins n) (whole_lines w'))
    (h-whole : each (λ x xs. both_whole x.1) h ≡ true) (h-whole' : each (λ x xs. both_whole x.1) h' ≡ true)
    (w-whole : each (λ x xs. both_whole x.1) w ≡ true) (w-whole' : each (λ x xs. both_whole x.1) w' ≡ true) where
  lines_from_rows : SameRows n (whole_lines h) (whole_lines w) (whole_lines h') (whole_lines w') → SameLines same_items h h' × SameLines same_key w w'
  lines_from_rows e =
      let f = rows_entries n (whole_lines h) (whole_lines h') (whole_lines w) (whole_lines w') (sound_fits n (whole_lines h) sh) (sound_fits n (whole_lines h') sh') (sound_pairs_fit n (whole_lines w) sw) (sound_pairs_fit n (whole_lines w') sw') in
      let t = (entries_determine n (whole_lines h) (whole_lines w) (whole_lines h') (whole_lines w') (record { hamiltonian = sh; noise = sw }) (record { hamiltonian = sh'; noise = sw' })).0 (f.0 e) in
      ((lines_same same_items h h' h-whole h-whole').0 t.0, (lines_same same_key w w' w-whole w-whole').0 t.1)

  rows_from_lines : SameLines same_items h h' → SameLines same_key w w' → SameRows n (whole_lines h) (whole_lines w) (whole_lines h') (whole_lines w')
  rows_from_lines p q =
      let f = rows_entries n (whole_lines h) (whole_lines h') (whole_lines w) (whole_lines w') (sound_fits n (whole_lines h) sh) (sound_fits n (whole_lines h') sh') (sound_pairs_fit n (whole_lines w) sw) (sound_pairs_fit n (whole_lines w') sw') in
      f.1 ((entries_determine n (whole_lines h) (whole_lines w) (whole_lines h') (whole_lines w') (record { hamiltonian = sh; noise = sw }) (record { hamiltonian = sh'; noise = sw' })).1
      ((lines_same same_items h h' h-whole h-whole').1 p, (lines_same same_key w w' w-whole w-whole').1 q))

-- ---- a system after calls

-- the row of the lines that the reference model has
line_row : ℕ → Model → ℕ → List (ℕ × G)
line_row n m r = row_in halves false (whole_contributions n r (whole_lines m.hamiltonian) (whole_lines m.noise))

-- `group` accepts valid sets
valid_grouped : (h : PauliHamiltonian) (w : PauliLindbladNoiseOperator) → reals.valid_set h ≡ true → pairs.valid_set w.set ≡ true → group_answer h w ≡ (done, together h w)
unfolding group_answer
valid_grouped h w v u = rw (v, u)

-- a system's contributions are those of its lines
contributions : (n r : ℕ) (h : PauliHamiltonian) (w : NoiseSet) → exact_contributions n r (hamiltonian_terms h) (pairs.held_by w) ≡ whole_contributions n r (whole_lines (real_lines h)) (whole_lines (noise_lines w))
unfolding whole_hamiltonian whole_noise
contributions n r h w =
    exact_entries.contributions n r h w
    ∙ ap₂ (whole_contributions n r) (sym (map-map whole_line _ (reals.held_by h))) (sym (map-map whole_line _ (pairs.held_by w)))

module _ (calls : List Call) where
  abbrev model : Model
  model = model_after calls

  held : Holds (sets_after calls) model
  held = holds_after calls

  -- `group` accepts both sets
  both_grouped : group_answer (sets_after calls).hamiltonian (record { set = (sets_after calls).noise }) ≡ (done, together (sets_after calls).hamiltonian (record { set = (sets_after calls).noise }))
  both_grouped = valid_grouped (sets_after calls).hamiltonian (record { set = (sets_after calls).noise }) held.hamiltonian-valid held.noise-valid

  pub grouped : system_after calls ≡ together (sets_after calls).hamiltonian (record { set = (sets_after calls).noise })
  unfolding system_after
  grouped = ap (λ (z : Said Unit × PauliLindbladOpenSystem). z.1) both_grouped

  row_of_lines : (n r : ℕ) → exact_row_entries (system_after calls) n r ≡ line_row n model r
  unfolding line_row exact_row_entries
  row_of_lines n r =
      ap (λ s. exact_row_entries s n r) grouped
      ∙ ap (row_in halves false) (contributions n r (sets_after calls).hamiltonian (sets_after calls).noise)
      ∙ ap₂ (λ h w. row_in halves false (whole_contributions n r (whole_lines h) (whole_lines w))) held.hamiltonian held.noise

  module _ (n : ℕ) (p : Premises n model) where
    h_sound : SoundTerms same_items (on_spins n) (whole_lines model.hamiltonian)
    h_sound =
        let e = sym held.hamiltonian in
        subst (λ l. SoundTerms same_items (on_spins n) (whole_lines l)) held.hamiltonian
        (sound_hamiltonian n (sets_after calls).hamiltonian held.hamiltonian-valid
        (subst (λ l. each (λ x xs. leb (reach x.0) n) l ≡ true) e p.deliverable.hamiltonian_sites)
        (subst (λ l. each (λ x xs. not (is_empty x.0)) l ≡ true) e p.no_empty_product)
        (subst (λ l. each (λ x xs. both_whole x.1) l ≡ true) e p.deliverable.hamiltonian_whole))

    w_sound : SoundTerms same_key (pair_on_spins n) (whole_lines model.noise)
    w_sound =
        let e = sym held.noise in
        subst (λ l. SoundTerms same_key (pair_on_spins n) (whole_lines l)) held.noise
        (sound_noise n (sets_after calls).noise held.noise-valid
        (subst (λ l. each (λ x xs. leb (reach x.0.0) n && leb (reach x.0.1) n) l ≡ true) e p.deliverable.noise_sites)
        (subst (λ l. each (λ x xs. both_whole x.1) l ≡ true) e p.deliverable.noise_whole))

-- ---- the theorems

pub group_accepts : GroupAccepts
group_accepts calls = ap (λ (z : Said Unit × PauliLindbladOpenSystem). z.0) (both_grouped calls)

pub condition_3 : Condition3
unfolding RowsAgree line_row
condition_3 a b n p q = (there, back)
  where
    there : RowsAgree n (system_after a) (system_after b) → SameModel (model_after a) (model_after b)
    there e =
        let t = lines_from_rows n (model_after a).hamiltonian (model_after b).hamiltonian (model_after a).noise (model_after b).noise
        (h_sound a n p) (h_sound b n q) (w_sound a n p) (w_sound b n q)
        p.deliverable.hamiltonian_whole q.deliverable.hamiltonian_whole p.deliverable.noise_whole q.deliverable.noise_whole
        (λ r hr. sym (row_of_lines a n r) ∙ e r hr ∙ row_of_lines b n r) in
        record { hamiltonian = t.0; noise = t.1 }

    back : SameModel (model_after a) (model_after b) → RowsAgree n (system_after a) (system_after b)
    back m r hr =
        row_of_lines a n r
        ∙ rows_from_lines n (model_after a).hamiltonian (model_after b).hamiltonian (model_after a).noise (model_after b).noise
        (h_sound a n p) (h_sound b n q) (w_sound a n p) (w_sound b n q)
        p.deliverable.hamiltonian_whole q.deliverable.hamiltonian_whole p.deliverable.noise_whole q.deliverable.noise_whole m.hamiltonian m.noise r hr
        ∙ sym (row_of_lines b n r)

-- both sets of a system that number 0 lets pass
system_valid : (s : PauliLindbladOpenSystem) → valid_system s ≡ true → (reals.valid_set s.system ≡ true) × (pairs.valid_set s.noise.set ≡ true)
unfolding valid_system
system_valid s v = go (reals.valid_set s.system) refl v
  where
    go : (b : Bool) → reals.valid_set s.system ≡ b → cond b (pairs.valid_set s.noise.set) false ≡ true → (reals.valid_set s.system ≡ true) × (pairs.valid_set s.noise.set ≡ true)
    go true e v = (e, v)
    go false e v = absurd (true≢false (sym v))

-- the system that a source is, as its calls make it
pub source_is : (x : Source) → system_of x ≡ system_after (calls_of x)
source_is (made calls) = refl
source_is (handed_in s v) = sym (grouped (calls_that_set s.system s.noise.set) ∙ (λ j. record { system = (both j).hamiltonian; noise = record { set = (both j).noise } }))
  where
    both : sets_after (calls_that_set s.system s.noise.set) ≡ record { hamiltonian = s.system; noise = s.noise.set }
    both = set_again s.system s.noise.set (system_valid s v).0 (system_valid s v).1

pub condition_3_handed_in : Condition3HandedIn
condition_3_handed_in x y n p q =
    subst (λ s. RowsAgree n s (system_of y) ↔ SameModel (model_after (calls_of x)) (model_after (calls_of y))) (sym (source_is x))
    (subst (λ s. RowsAgree n (system_after (calls_of x)) s ↔ SameModel (model_after (calls_of x)) (model_after (calls_of y))) (sym (source_is y))
    (condition_3 (calls_of x) (calls_of y) n p q))
