-- What the exact row call gives: the entries of the superoperator of the system's terms.
-- Assumes nothing.
use Prim.Native.Nat.{ℕ, ◌*◌, ◌/◌, ◌%◌, ◌^◌, ◌<◌}
use mathlib.Core.Path.{◌≡◌, sym, ap, ap₂, ◌∙◌}
use mathlib.Core.Bool.{false}
use mathlib.Core.List.{List, [], ◌∷◌, ◌++◌, map}
use Rattle.letters.specs.Gauss.{G}
use Rattle.items.specs.declared.Items.{Items}
use Rattle.terms.specs.Keyed.{concat_map}
use Rattle.terms.proofs.KeyedLaws.{All, all_nil, all_cons}
use Rattle.terms.proofs.NestedLaws.{concat_map-map}
use Rattle.row_entries.specs.PairColumns.{pair_column}
use Rattle.master_equation.specs.Sums.{sum_at, value_at}
use Rattle.rows.proofs.PlacingLaws.{row_in_value}
use Rattle.term_sets.specs.Matrices.{Fits}
use Rattle.hamiltonians.specs.Reals as reals
use Rattle.hamiltonians.specs.Reals.{RealTerm, hamiltonian_terms}
use Rattle.hamiltonians.specs.declared.PauliHamiltonian.{PauliHamiltonian}
use Rattle.noise_sets.specs.Pairs.{Key, NoiseTerm, NoiseSet}
use Rattle.noise_sets.specs.Pairs as pairs
use Rattle.open_system.specs.declared.PauliLindbladOpenSystem.{PauliLindbladOpenSystem}
use Rattle.outside_sites.specs.Accepted.{Accepted}
use Rattle.term_sets.specs.Complexes as operator_rows
use Rattle.exact_rows.specs.ExactRows.{gauss_of, exact_contributions, exact_commutator_part, exact_row_entries}
use Rattle.outside_sites.proofs.AcceptedLaws.{accepted_first, accepted_rest, accepted_left, accepted_right, all_both, hamiltonian-valid, noise-valid}
use Rattle.open_rows.proofs.SystemTheorems.{FitsPair}
use Rattle.exact_entries.specs.ExactEntries.{whole_hamiltonian, whole_noise, system_entry, ExactRowTheorem}
use Rattle.exact_entries.proofs.RowValues.{whole_contributions, row-sum}
use Rattle.exact_entries.proofs.PassedLaws.{products, Passed, passed}

-- ---- the contributions are those of the terms with whole coefficients

pub contributions : (n r : ℕ) (h : PauliHamiltonian) (w : NoiseSet) → exact_contributions n r (hamiltonian_terms h) (pairs.held_by w) ≡ whole_contributions n r (whole_hamiltonian h) (whole_noise w)
unfolding exact_contributions whole_contributions whole_hamiltonian whole_noise
contributions n r h w =
    ap₂ ◌++◌
    (concat_map-map reals.complex_term (exact_commutator_part n r) (reals.held_by h) ∙ sym (concat_map-map _ _ (reals.held_by h)))
    (sym (concat_map-map _ _ (pairs.held_by w)))

-- ---- the products that 0 and 8 let pass fit the spins

products_fit : {n rows r : ℕ} (l : List RealTerm) → Accepted n rows r (operator_rows.items_of (map reals.complex_term l))
    → All (λ (t : Items × G). Fits n t.0) (map (λ (t : RealTerm). (t.key, gauss_of (reals.complex_of t.coefficient))) l)
products_fit {n} [] a = all_nil (λ (t : Items × G). Fits n t.0)
products_fit {n} (t ∷ l) a =
    let w = accepted_first t.key (operator_rows.items_of (map reals.complex_term l)) a in
    all_cons (λ (t : Items × G). Fits n t.0) (t.key, gauss_of (reals.complex_of t.coefficient)) (map (λ (t : RealTerm). (t.key, gauss_of (reals.complex_of t.coefficient))) l)
    (w.held, w.sites_below_lem)
    (products_fit l (accepted_rest t.key (operator_rows.items_of (map reals.complex_term l)) a))

sides_fit : {n rows r : ℕ} (l : List NoiseTerm) → Accepted n rows r (pairs.sides_of l)
    → All (λ (t : Key × G). FitsPair n t.0) (map (λ (t : NoiseTerm). (t.key, gauss_of t.coefficient)) l)
unfolding pairs.sides_of concat_map
sides_fit {n} [] a = all_nil (λ (t : Key × G). FitsPair n t.0)
sides_fit {n} (t ∷ l) a =
    let left = accepted_first t.key.0 (t.key.1 ∷ pairs.sides_of l) a in
    let b = accepted_rest t.key.0 (t.key.1 ∷ pairs.sides_of l) a in
    let right = accepted_first t.key.1 (pairs.sides_of l) b in
    all_cons (λ (t : Key × G). FitsPair n t.0) (t.key, gauss_of t.coefficient) (map (λ (t : NoiseTerm). (t.key, gauss_of t.coefficient)) l)
    ((left.held, left.sites_below_lem), (right.held, right.sites_below_lem))
    (sides_fit l (accepted_rest t.key.1 (pairs.sides_of l) b))

module _ (s : PauliLindbladOpenSystem) (n r : ℕ) (p : Passed s n) (below : r < 2 ^ n * 2 ^ n) where
  taken : Accepted n (2 ^ n * 2 ^ n) r (products s)
  taken =
      record {
        held = all_both (operator_rows.items_of (hamiltonian_terms s.system)) (pairs.sides_of (pairs.held_by s.noise.set)) (hamiltonian-valid s.system p.hamiltonian) (noise-valid s.noise.set p.noise);
        few = p.few;
        below = below;
        inside = p.inside;
      }

  hamiltonian_fits : All (λ t. Fits n t.0) (whole_hamiltonian s.system)
  unfolding whole_hamiltonian
  hamiltonian_fits = products_fit (reals.held_by s.system) (accepted_left (operator_rows.items_of (hamiltonian_terms s.system)) (pairs.sides_of (pairs.held_by s.noise.set)) taken)

  noise_fits : All (λ t. FitsPair n t.0) (whole_noise s.noise.set)
  unfolding whole_noise
  noise_fits = sides_fit (pairs.held_by s.noise.set) (accepted_right (operator_rows.items_of (hamiltonian_terms s.system)) (pairs.sides_of (pairs.held_by s.noise.set)) taken)

  -- the row's values are sums of contributions
  value_is : (c : ℕ) → value_at c (exact_row_entries s n r) ≡ sum_at c (whole_contributions n r (whole_hamiltonian s.system) (whole_noise s.noise.set))
  unfolding exact_row_entries
  value_is c = row_in_value false c (exact_contributions n r (hamiltonian_terms s.system) (pairs.held_by s.noise.set)) ∙ ap (sum_at c) (contributions n r s.system s.noise.set)

  entry_is : (a b : ℕ) → a < 2 ^ n → b < 2 ^ n → value_at (pair_column n a b) (exact_row_entries s n r) ≡ system_entry s n (r / 2 ^ n) (r % 2 ^ n) a b
  unfolding system_entry
  entry_is a b ha hb = value_is (pair_column n a b) ∙ row-sum n (whole_hamiltonian s.system) (whole_noise s.noise.set) hamiltonian_fits noise_fits r a b below ha hb

pub exact_row_theorem : ExactRowTheorem
exact_row_theorem s n r row e a b ha hb =
    let q = passed s n r row e in
    ap (value_at (pair_column n a b)) (sym q.1.1) ∙ entry_is s n r q.0 q.1.0 a b ha hb
