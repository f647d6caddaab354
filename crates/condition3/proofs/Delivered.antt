-- What the exact row call delivers, of a system made or handed in: the list that condition 3 compares, exactly where no number refuses the call.
-- Assumes nothing.
use Prim.Native.Nat.{ℕ}
use native.Mathlib.Omega.{arith}
use mathlib.Core.Path.{◌≡◌, refl, sym, ap, ap₂, subst, ◌∙◌}
use mathlib.Core.Bool.{Bool, true, ◌&&◌, and_assoc}
use mathlib.Core.List.{List, [], ◌∷◌, ◌++◌, map}
use lib.Dec.{leb}
use borrow.Author.Tests.{le-leb, leb-true}
use Rattle.refusal.specs.Refusals.{gives}
use Rattle.letters.specs.Gauss.{G}
use Rattle.letters.proofs.TestLaws.{and_true, and_left, and_right}
use Rattle.complex.specs.Wholes.{both_whole}
use Rattle.items.specs.Record.{reach}
use Rattle.items.specs.declared.Items.{Items}
use Rattle.terms.specs.Keyed.{each, concat_map}
use Rattle.terms.proofs.KeyedLaws.{each_head, each_tail}
use Rattle.rows.specs.Calls.{outside}
use Rattle.hamiltonians.specs.Reals as reals
use Rattle.hamiltonians.specs.declared.PauliHamiltonian.{PauliHamiltonian}
use Rattle.noise_sets.specs.Pairs.{Key, NoiseTerm, NoiseSet}
use Rattle.noise_sets.specs.Pairs as pairs
use Rattle.open_system.specs.declared.PauliLindbladOpenSystem.{PauliLindbladOpenSystem}
use Rattle.hamiltonians.specs.Reals.{hamiltonian_terms}
use Rattle.outside_sites.specs.SystemItems.{system_items}
use Rattle.exact_rows.specs.ExactRows.{whole_terms}
use Rattle.outside_sites.proofs.OutsideLaws.{outside_none, first_inside, reach-below, rest-inside}
use Rattle.exact_entries.proofs.PassedLaws.{products, passed, gives_row}
use Rattle.condition3.specs.ReferenceModel.{Line, real_part, Model, model_after}
use Rattle.condition3.specs.Calls.{Call, sets_after}
use Rattle.condition3.specs.Condition3.{calls_of, RowDelivered, RowsDelivered}
use Rattle.condition3.proofs.ModelLaws.{Holds, holds_after}
use Rattle.condition3.proofs.HamiltonianLines.{real_lines}
use Rattle.condition3.proofs.NoiseLines.{noise_lines}
use Rattle.condition3.proofs.SoundLines.{each_map}
use Rattle.condition3.proofs.Condition3Theorem.{grouped, source_is}

-- ---- 8: no product has a site at n or above

-- the test of each product
abbrev inside : ℕ → List Items → Bool
inside n ps = each (λ p qs. leb (reach p) n) ps

none_outside : (n : ℕ) (ps : List Items) → inside n ps ≡ true → outside n ps ≡ []
none_outside n [] e = outside_none n
none_outside n (p ∷ ps) e =
    first_inside n p ps refl (leb-true (reach p) n (each_head (λ p qs. leb (reach p) n) p ps e)) ∙ none_outside n ps (each_tail (λ p qs. leb (reach p) n) p ps e)

all_inside : (n : ℕ) (ps : List Items) → outside n ps ≡ [] → inside n ps ≡ true
unfolding each
all_inside n [] e = refl
all_inside n (p ∷ ps) e = and_true (le-leb (reach p) n (reach-below n p ps e)) (all_inside n ps (rest-inside n p ps e))

-- of two lists, and of the sides of noise terms
inside_both : (n : ℕ) (a b : List Items) → inside n (a ++ b) ≡ (inside n a && inside n b)
unfolding each
inside_both n [] b = refl
inside_both n (p ∷ a) b = ap (λ t. leb (reach p) n && t) (inside_both n a b) ∙ sym (and_assoc (leb (reach p) n) (inside n a) (inside n b))

inside-sides : (n : ℕ) (l : List NoiseTerm) → inside n (pairs.sides_of l) ≡ each (λ t ts. leb (reach t.key.0) n && leb (reach t.key.1) n) l
unfolding each pairs.sides_of concat_map
inside-sides n [] = refl
inside-sides n (t ∷ l) =
    ap (λ b. leb (reach t.key.0) n && (leb (reach t.key.1) n && b)) (inside-sides n l)
    ∙ sym (and_assoc (leb (reach t.key.0) n) (leb (reach t.key.1) n) (each (λ t ts. leb (reach t.key.0) n && leb (reach t.key.1) n) l))

-- ---- the tests of a system's terms are those of its lines

abbrev sites_below : ℕ → List (Line Items) → Bool
sites_below n l = each (λ x xs. leb (reach x.0) n) l

abbrev pair_sites_below : ℕ → List (Line Key) → Bool
pair_sites_below n l = each (λ x xs. leb (reach x.0.0) n && leb (reach x.0.1) n) l

abbrev parts_whole : {K : Type 0} → List (Line K) → Bool
parts_whole l = each (λ x xs. both_whole x.1) l

module _ (h : PauliHamiltonian) (w : NoiseSet) where
  inside_lines : (n : ℕ) → inside n (system_items (hamiltonian_terms h) (pairs.held_by w)) ≡ (sites_below n (real_lines h) && pair_sites_below n (noise_lines w))
  inside_lines n =
      inside_both n (map (λ t. t.key) (hamiltonian_terms h)) (pairs.sides_of (pairs.held_by w))
      ∙ ap₂ ◌&&◌
      (each_map _ (λ t ts. leb (reach t.key) n) (λ p qs. leb (reach p) n) (λ t ts. refl) (hamiltonian_terms h)
      ∙ each_map reals.complex_term (λ t ts. leb (reach t.key) n) (λ t ts. leb (reach t.key) n) (λ t ts. refl) (reals.held_by h)
      ∙ sym (each_map _ (λ t ts. leb (reach t.key) n) (λ x xs. leb (reach x.0) n) (λ t ts. refl) (reals.held_by h)))
      (inside-sides n (pairs.held_by w)
      ∙ sym (each_map _ (λ t ts. leb (reach t.key.0) n && leb (reach t.key.1) n)
      (λ x xs. leb (reach x.0.0) n && leb (reach x.0.1) n) (λ t ts. refl) (pairs.held_by w)))

  whole_lines_lem : whole_terms (hamiltonian_terms h) (pairs.held_by w) ≡ (parts_whole (real_lines h) && parts_whole (noise_lines w))
  unfolding whole_terms
  whole_lines_lem =
      ap₂ ◌&&◌
      (each_map reals.complex_term (λ t ts. both_whole (real_part t.coefficient)) (λ t ts. both_whole t.coefficient) (λ t ts. refl) (reals.held_by h)
      ∙ sym (each_map _ (λ t ts. both_whole (real_part t.coefficient)) (λ x xs. both_whole x.1) (λ t ts. refl) (reals.held_by h)))
      (sym (each_map _ (λ t ts. both_whole t.coefficient) (λ x xs. both_whole x.1) (λ t ts. refl) (pairs.held_by w)))

-- ---- the system that a list of calls makes

module _ (calls : List Call) (n r : ℕ) where
  held : Holds (sets_after calls) (model_after calls)
  held = holds_after calls

  abbrev h : PauliHamiltonian
  h = (sets_after calls).hamiltonian

  abbrev w : NoiseSet
  w = (sets_after calls).noise

  abbrev s : PauliLindbladOpenSystem
  s = record { system = h; noise = record { set = w } }

  abbrev m : Model
  m = model_after calls

  abbrev wholes : Bool
  wholes = whole_terms (hamiltonian_terms h) (pairs.held_by w)

  sites_tested : inside n (products s) ≡ (sites_below n m.hamiltonian && pair_sites_below n m.noise)
  sites_tested = inside_lines h w n ∙ ap₂ (λ a b. sites_below n a && pair_sites_below n b) held.hamiltonian held.noise

  parts_tested : wholes ≡ (parts_whole m.hamiltonian && parts_whole m.noise)
  parts_tested = whole_lines_lem h w ∙ ap₂ (λ a b. parts_whole a && parts_whole b) held.hamiltonian held.noise

  made_delivered : (l : List (ℕ × G)) → RowDelivered m s n r l
  made_delivered l = (
    λ p.
        gives_row s n r
        (record {
          hamiltonian = held.hamiltonian-valid;
          noise = held.noise-valid;
          few = omega (arith, p.0.spins);
          inside = none_outside n (products s) (sites_tested ∙ and_true p.0.hamiltonian_sites p.0.noise_sites);
          whole = parts_tested ∙ and_true p.0.hamiltonian_whole p.0.noise_whole;
        }) p.1
        ∙ ap gives (sym p.2),
    λ e.
        let t = passed s n r l e in
        let sites = sym sites_tested ∙ all_inside n (products s) t.0.inside in
        let parts = sym parts_tested ∙ t.0.whole in (
          record {
            spins = omega (arith, t.0.few);
            hamiltonian_sites = and_left (sites_below n m.hamiltonian) (pair_sites_below n m.noise) sites;
            noise_sites = and_right (sites_below n m.hamiltonian) (pair_sites_below n m.noise) sites;
            hamiltonian_whole = and_left (parts_whole m.hamiltonian) (parts_whole m.noise) parts;
            noise_whole = and_right (parts_whole m.hamiltonian) (parts_whole m.noise) parts;
          },
          t.1.0,
          sym t.1.1,
        ),
  )

pub rows_delivered : RowsDelivered
rows_delivered x n r l = subst (λ s. RowDelivered (model_after (calls_of x)) s n r l) (sym (source_is x ∙ grouped (calls_of x))) (made_delivered (calls_of x) n r l)
