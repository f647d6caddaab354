-- The exact row call that gives a row: what its numbers asked, and back.
-- Assumes nothing.
use Prim.Native.Nat.{ℕ, ◌*◌, ◌^◌, ◌≤◌, ◌<◌}
use mathlib.Core.Path.{◌≡◌, refl, sym, ap}
use mathlib.Core.Bool.{Bool, true, false, not, cond, true≢false}
use mathlib.Core.List.{List, [], ◌∷◌}
use lib.Dec.{leb, ltb}
use borrow.Author.Tests.{le-ltb, lt-leb, ltb-false, leb-false}
use Rattle.refusal.specs.Refusals.{Said, gives, refuses}
use Rattle.letters.specs.Gauss.{G}
use Rattle.row_entries.specs.Answers.{most_spins}
use Rattle.items.specs.declared.Items.{Items}
use Rattle.terms.proofs.AnswerLaws.{not_both}
use Rattle.rows.specs.Calls.{outside, unless_outside, checked_row}
use Rattle.hamiltonians.specs.Reals as reals
use Rattle.noise_sets.specs.Pairs as pairs
use Rattle.open_system.specs.declared.PauliLindbladOpenSystem.{PauliLindbladOpenSystem}
use Rattle.hamiltonians.specs.Reals.{hamiltonian_terms}
use Rattle.open_system.specs.Grouping.{valid_system}
use Rattle.outside_sites.specs.SystemItems.{system_items}
use Rattle.exact_rows.specs.ExactRows.{whole_terms, unless_not_whole, exact_row_of_terms, exact_row, exact_row_entries}

-- ---- tests before an answer that gives something

abbrev value_or : {A : Type 0} → A → Said A → A
value_or d (gives x) = x
value_or d (refuses k l) = d

refused : {A : Type 0} {k : ℕ} {l : List ℕ} (x : A) → ◌≡◌ {A = Said A} (refuses k l) (gives x) → ⊥
refused {A} {k} {l} x e = not_both x k l (sym e)

gives_same : {A : Type 0} (x y : A) → gives x ≡ gives y → x ≡ y
gives_same x y e = ap (value_or x) e

past_not : {A : Type 0} (b : Bool) (k : ℕ) (l : List ℕ) (z : Said A) (x : A) → cond (not b) (refuses k l) z ≡ gives x → (b ≡ true) × (z ≡ gives x)
past_not true k l z x e = (refl, e)
past_not false k l z x e = absurd (refused x e)

past_test : {A : Type 0} (b : Bool) (k : ℕ) (l : List ℕ) (z : Said A) (x : A) → cond b (refuses k l) z ≡ gives x → (b ≡ false) × (z ≡ gives x)
past_test true k l z x e = absurd (refused x e)
past_test false k l z x e = (refl, e)

past_whole : {A : Type 0} (b : Bool) (z : Said A) (x : A) → unless_not_whole b z ≡ gives x → (b ≡ true) × (z ≡ gives x)
unfolding unless_not_whole
past_whole true (gives y) x e = (refl, e)
past_whole false (gives y) x e = absurd (refused x e)
past_whole b (refuses k l) x e = absurd (refused x e)

past_outside : (o : List ℕ) (row x : List (ℕ × G)) → unless_outside o row ≡ gives x → (o ≡ []) × (row ≡ x)
unfolding unless_outside
past_outside [] row x e = (refl, gives_same row x e)
past_outside (s ∷ ss) row x e = absurd (refused x e)

both-valid : (a b : Bool) → cond a b false ≡ true → (a ≡ true) × (b ≡ true)
both-valid true b e = (refl, e)
both-valid false b e = absurd (true≢false (sym e))

-- ---- the exact row call

-- the products of a system, Hamiltonian before noise
abbrev pub products : PauliLindbladOpenSystem → List Items
products s = system_items (hamiltonian_terms s.system) (pairs.held_by s.noise.set)

-- what 0, 7, 8 and 11 ask, which is the same for every row
pub record Passed (s : PauliLindbladOpenSystem) (n : ℕ) : Type 0 where
  pub hamiltonian : reals.valid_set s.system ≡ true
  pub noise : pairs.valid_set s.noise.set ≡ true
  pub few : n ≤ most_spins
  pub inside : outside n (products s) ≡ []
  pub whole : whole_terms (hamiltonian_terms s.system) (pairs.held_by s.noise.set) ≡ true

-- a row that is given: they let it pass, it is below d·d, and it is the row of the contributions
pub passed : (s : PauliLindbladOpenSystem) (n r : ℕ) (row : List (ℕ × G)) → exact_row s n r ≡ gives row → Passed s n × ((r < 2 ^ n * 2 ^ n) × (exact_row_entries s n r ≡ row))
unfolding exact_row exact_row_of_terms checked_row exact_row_entries valid_system
passed s n r row e =
    let a = past_not (valid_system s) 0 [] (exact_row_of_terms n r (hamiltonian_terms s.system) (pairs.held_by s.noise.set)) row e in
    let v = both-valid (reals.valid_set s.system) (pairs.valid_set s.noise.set) a.0 in
    let w = past_whole (whole_terms (hamiltonian_terms s.system) (pairs.held_by s.noise.set)) (checked_row n (2 ^ n * 2 ^ n) r (products s) (exact_row_entries s n r)) row a.1 in
    let m = past_test (ltb most_spins n) 7 [] (cond (leb (2 ^ n * 2 ^ n) r) (refuses 9 []) (unless_outside (outside n (products s)) (exact_row_entries s n r))) row w.1 in
    let b = past_test (leb (2 ^ n * 2 ^ n) r) 9 [] (unless_outside (outside n (products s)) (exact_row_entries s n r)) row m.1 in
    let o = past_outside (outside n (products s)) (exact_row_entries s n r) row b.1 in (
      record { hamiltonian = v.0; noise = v.1; few = ltb-false most_spins n m.0; inside = o.0; whole = w.0 },
      (leb-false (2 ^ n * 2 ^ n) r b.0, o.1),
    )

-- and back: no number refuses
pub gives_row : (s : PauliLindbladOpenSystem) (n r : ℕ) → Passed s n → r < 2 ^ n * 2 ^ n → exact_row s n r ≡ gives (exact_row_entries s n r)
unfolding exact_row valid_system exact_row_of_terms exact_row_entries checked_row unless_outside unless_not_whole
gives_row s n r p below = rw (p.hamiltonian, p.noise, le-ltb most_spins n p.few, lt-leb (2 ^ n * 2 ^ n) r below, p.inside, p.whole) refl
