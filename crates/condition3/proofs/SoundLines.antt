-- The lines that valid sets hold, with the premises of condition 3, make sound terms with whole coefficients.
-- Assumes nothing.
use Prim.Native.Nat.{ℕ}
use mathlib.Core.Path.{◌≡◌, refl, ap, ap₂, ◌∙◌}
use mathlib.Core.Bool.{Bool, true, not, ◌&&◌, ◌||◌}
use mathlib.Core.List.{List, [], ◌∷◌, map}
use lib.Dec.{leb, eqb}
use lib.Ieee.{eq}
use borrow.Author.Tests.{leb-true, not-true}
use Rattle.letters.specs.Gauss.{G, 𝟘, eq_G}
use Rattle.letters.proofs.TestLaws.{and_true, and_left, and_right}
use Rattle.complex.specs.Complex.{plus_zero, is_zero, part_in_range, in_range}
use Rattle.complex.specs.declared.Complex.{Complex}
use Rattle.complex.proofs.FloatLaws.{is_zero_real}
use Rattle.items.specs.Record.{valid, reach, same_items, same_key}
use Rattle.items.specs.declared.Items.{Items}
use Rattle.terms.specs.Keyed.{has, each}
use Rattle.terms.specs.Kind.{Terms}
use Rattle.terms.specs.Setting.{keyed}
use Rattle.terms.proofs.KeyedLaws.{All, all_each, all_map}
use Rattle.terms.proofs.SettingLaws.{different}
use Rattle.terms.proofs.EachLaws.{each_follows, each_both}
use Rattle.term_sets.specs.Matrices.{Fits}
use Rattle.hamiltonians.specs.Reals.{real_terms}
use Rattle.hamiltonians.specs.Reals as reals
use Rattle.hamiltonians.specs.declared.PauliHamiltonian.{PauliHamiltonian}
use Rattle.terms.proofs.ValidSetLaws as valid_sets
use Rattle.hamiltonians.proofs.RealValidLaws.{valid_hamiltonians}
use Rattle.hamiltonians.proofs.RealValidLaws as real_valid
use Rattle.noise_sets.specs.Pairs.{Key, pair_terms, is_empty, NoiseSet}
use Rattle.noise_sets.specs.Pairs as pairs
use Rattle.noise_sets.proofs.ValidLaws.{valid_noise_sets}
use Rattle.noise_sets.proofs.ValidLaws as pairs_valid
use Rattle.open_rows.proofs.SystemTheorems.{FitsPair}
use Rattle.superoperator.specs.Systems.{SoundTerms, on_spins, pair_on_spins}
use Rattle.complex.specs.Wholes.{both_whole}
use Rattle.condition3.specs.ReferenceModel.{Line, real_part}
use Rattle.condition3.specs.Condition3.{has_line}
use Rattle.condition3.proofs.LineLaws.{lines_of}
use Rattle.condition3.proofs.WholeLines.{whole_line, whole_lines, has-whole, gauss_nonzero}
use Rattle.condition3.proofs.HamiltonianLines.{real_lines}
use Rattle.condition3.proofs.NoiseLines.{noise_lines, itself}

-- ---- a test of each result is a test of each element

pub each_map : {A B : Type 0} (f : A → B) (p : A → List A → Bool) (q : B → List B → Bool) → ((x : A) (l : List A) → q (f x) (map f l) ≡ p x l) → (l : List A) → each q (map f l) ≡ each p l
unfolding each
each_map f p q e [] = refl
each_map f p q e (x ∷ l) = ap₂ ◌&&◌ (e x l) (each_map f p q e l)

-- ---- lines of any kind

has_lines : {K N : Type 0} (S : Terms K N) (parts : N → Complex) (k : K) (l : List S.Term) → has_line S.same k (lines_of S parts l) ≡ has (keyed S k) l
unfolding has
has_lines S parts k [] = refl
has_lines S parts k (x ∷ l) = ap (λ b. S.same (S.key x) k || b) (has_lines S parts k l)

-- keys that pass a test, no key twice, and no zero: so are the terms with whole coefficients
pub sound_lines : {K : Type 0} (same : K → K → Bool) (good : K → Bool) (lines : List (Line K))
    → each (λ x xs. good x.0) lines ≡ true → each (λ x xs. not (has_line same x.0 xs)) lines ≡ true
    → each (λ x xs. not (is_zero x.1)) lines ≡ true → each (λ x xs. both_whole x.1) lines ≡ true
    → SoundTerms same good (whole_lines lines)
sound_lines same good lines g d z w = record {
  keys = each_map whole_line (λ x xs. good x.0) (λ t ts. good t.0) (λ x xs. refl) lines ∙ g;
  different = each_map whole_line (λ x xs. not (has_line same x.0 xs)) (λ t ts. not (has (λ u. same u.0 t.0) ts)) (λ x xs. ap not (has-whole same x.0 xs)) lines ∙ d;
  nonzero =
      each_map whole_line (λ x xs. not (eq_G (whole_line x).1 𝟘)) (λ t ts. not (eq_G t.1 𝟘)) (λ x xs. refl) lines
      ∙ each_both (λ x xs. not (is_zero x.1)) (λ x xs. both_whole x.1) (λ x xs. not (eq_G (whole_line x).1 𝟘)) (λ x xs a b. ap not (gauss_nonzero x.1 b (not-true (is_zero x.1) a))) lines z w;
}

-- ---- the Hamiltonian's lines

module _ (n : ℕ) (s : PauliHamiltonian) (v : reals.valid_set s ≡ true) where
  real_different : each (λ x xs. not (has_line same_items x.0 xs)) (real_lines s) ≡ true
  real_different =
      each_map _ (different real_terms) (λ x xs. not (has_line same_items x.0 xs)) (λ t ts. ap not (has_lines real_terms real_part t.key ts)) (reals.held_by s)
      ∙ valid_sets.valid-different valid_hamiltonians s v

  real_nonzero : each (λ x xs. not (is_zero x.1)) (real_lines s) ≡ true
  real_nonzero =
      each_map _ (λ t ts. not (is_zero (real_part t.coefficient))) (λ x xs. not (is_zero x.1)) (λ t ts. refl) (reals.held_by s)
      ∙ each_follows (λ t ts. reals.good_coefficient t.coefficient) (λ t ts. not (is_zero (real_part t.coefficient)))
      (λ t ts e. ap not (is_zero_real t.coefficient) ∙ and_right (part_in_range t.coefficient) (not (eq t.coefficient plus_zero)) e) (reals.held_by s) (valid_sets.valid-coefficients valid_hamiltonians s v)

  real_products : each (λ x xs. valid x.0) (real_lines s) ≡ true
  real_products = each_map _ (λ t ts. valid t.key) (λ x xs. valid x.0) (λ t ts. refl) (reals.held_by s) ∙ real_valid.valid-products s v

  pub sound_hamiltonian : each (λ x xs. leb (reach x.0) n) (real_lines s) ≡ true → each (λ x xs. not (is_empty x.0)) (real_lines s) ≡ true → each (λ x xs. both_whole x.1) (real_lines s) ≡ true
      → SoundTerms same_items (on_spins n) (whole_lines (real_lines s))
  unfolding on_spins
  sound_hamiltonian sites nonempty whole =
      sound_lines same_items (on_spins n) (real_lines s)
      (each_both (λ x xs. valid x.0) (λ x xs. leb (reach x.0) n && not (is_empty x.0)) (λ x xs. on_spins n x.0) (λ x xs a b. and_true a b) (real_lines s) real_products
      (each_both (λ x xs. leb (reach x.0) n) (λ x xs. not (is_empty x.0)) (λ x xs. leb (reach x.0) n && not (is_empty x.0)) (λ x xs a b. and_true a b) (real_lines s) sites nonempty))
      real_different real_nonzero whole

-- ---- the noise set's lines

module _ (n : ℕ) (s : NoiseSet) (v : pairs.valid_set s ≡ true) where
  pair_different : each (λ x xs. not (has_line same_key x.0 xs)) (noise_lines s) ≡ true
  pair_different =
      each_map _ (different pair_terms) (λ x xs. not (has_line same_key x.0 xs)) (λ t ts. ap not (has_lines pair_terms itself t.key ts)) (pairs.held_by s)
      ∙ valid_sets.valid-different valid_noise_sets s v

  pair_nonzero : each (λ x xs. not (is_zero x.1)) (noise_lines s) ≡ true
  pair_nonzero = each_map _ (λ t ts. not (is_zero t.coefficient)) (λ x xs. not (is_zero x.1)) (λ t ts. refl) (pairs.held_by s)
      ∙ each_follows (λ t ts. pairs.good_coefficient t.coefficient) (λ t ts. not (is_zero t.coefficient))
      (λ t ts e. and_right (in_range t.coefficient) (not (is_zero t.coefficient)) e) (pairs.held_by s) (valid_sets.valid-coefficients valid_noise_sets s v)

  pair_keys : each (λ x xs. pairs.good_key x.0) (noise_lines s) ≡ true
  pair_keys = each_map _ (λ t ts. pairs.good_key t.key) (λ x xs. pairs.good_key x.0) (λ t ts. refl) (pairs.held_by s) ∙ pairs_valid.valid-keys s v

  -- a good key whose sites are below n
  key-on_spins : (k : Key) → pairs.good_key k ≡ true → (leb (reach k.0) n && leb (reach k.1) n) ≡ true → pair_on_spins n k ≡ true
  unfolding pair_on_spins on_spins
  key-on_spins k g r =
      let a = valid k.0 in
      let b = valid k.1 in
      let c = not (is_empty k.0) in
      let d = not (is_empty k.1) in
      let vs = and_left (a && b) (c && d) g in
      let es = and_right (a && b) (c && d) g in
      and_true
      (and_true (and_left a b vs) (and_true (and_left (leb (reach k.0) n) (leb (reach k.1) n) r) (and_left c d es)))
      (and_true (and_right a b vs) (and_true (and_right (leb (reach k.0) n) (leb (reach k.1) n) r) (and_right c d es)))

  pub sound_noise : each (λ x xs. leb (reach x.0.0) n && leb (reach x.0.1) n) (noise_lines s) ≡ true → each (λ x xs. both_whole x.1) (noise_lines s) ≡ true
      → SoundTerms same_key (pair_on_spins n) (whole_lines (noise_lines s))
  sound_noise sites whole =
      sound_lines same_key (pair_on_spins n) (noise_lines s)
      (each_both (λ x xs. pairs.good_key x.0) (λ x xs. leb (reach x.0.0) n && leb (reach x.0.1) n) (λ x xs. pair_on_spins n x.0) (λ x xs a b. key-on_spins x.0 a b) (noise_lines s) pair_keys sites)
      pair_different pair_nonzero whole

-- ---- sound terms fit the spins

product_fits : (n : ℕ) (p : Items) → on_spins n p ≡ true → Fits n p
unfolding on_spins
product_fits n p e =
    let r = leb (reach p) n in
    let m = not (eqb p.count 0) in
    (and_left (valid p) (r && m) e, leb-true (reach p) n (and_left r m (and_right (valid p) (r && m) e)))

pub sound_fits : (n : ℕ) (l : List (Items × G)) → SoundTerms same_items (on_spins n) l → All (λ t. Fits n t.0) l
sound_fits n l s = all_map (λ t. on_spins n t.0 ≡ true) (λ t. Fits n t.0) (λ t e. product_fits n t.0 e) l (all_each (λ t. on_spins n t.0) l s.keys)

pub sound_pairs_fit : (n : ℕ) (l : List (Key × G)) → SoundTerms same_key (pair_on_spins n) l → All (λ t. FitsPair n t.0) l
unfolding pair_on_spins
sound_pairs_fit n l s =
    all_map (λ t. pair_on_spins n t.0 ≡ true) (λ t. FitsPair n t.0)
    (λ t e. (product_fits n t.0.0 (and_left (on_spins n t.0.0) (on_spins n t.0.1) e), product_fits n t.0.1 (and_right (on_spins n t.0.0) (on_spins n t.0.1) e)))
    l (all_each (λ t. pair_on_spins n t.0) l s.keys)
