-- Row calls that no number refuses: the same of a part of the products, of each term's, and what number 0 says of a valid set's products.
-- Assumes nothing.
use Prim.Native.Nat.{ℕ, zero, suc, ◌≤◌, ◌<◌}
use native.Mathlib.Nat.{le_of_suc-le-suc, not-suc-le-zero}
use native.Mathlib.Omega.{arith}
use mathlib.Core.Path.{◌≡◌, refl, sym, ◌∙◌, subst}
use mathlib.Core.Bool.{Bool, true, not, ◌&&◌}
use mathlib.Core.List.{List, [], ◌∷◌, ◌++◌}
use lib.ListN.{length, get_or}
use Rattle.letters.proofs.TestLaws.{and_left, and_right}
use Rattle.items.specs.Record.{valid}
use Rattle.row_entries.specs.Answers.{most_spins}
use Rattle.items.specs.declared.Items.{Items}
use Rattle.terms.specs.Keyed.{each, concat_map}
use Rattle.terms.proofs.KeyedLaws.{each_cons, each_head, each_tail, concat_map_cons}
use Rattle.terms.proofs.EachLaws.{each_results}
use Rattle.rows.specs.Calls.{outside}
use Rattle.row_entries.proofs.EntryLaws.{Within}
use Rattle.hamiltonians.specs.Reals as reals
use Rattle.hamiltonians.specs.Reals.{hamiltonian_terms}
use Rattle.hamiltonians.specs.declared.PauliHamiltonian.{PauliHamiltonian}
use Rattle.hamiltonians.proofs.RealValidLaws as real-laws
use Rattle.term_sets.specs.Complexes as complexes
use Rattle.term_sets.specs.Complexes.{Term, TermSet, items_of}
use Rattle.term_sets.proofs.ValidLaws as set-laws
use Rattle.noise_sets.specs.Pairs as pairs
use Rattle.noise_sets.specs.Pairs.{NoiseTerm, NoiseSet, sides}
use Rattle.noise_sets.specs.Answers.{valid_key}
use Rattle.noise_sets.proofs.ValidLaws as pair-laws
use Rattle.outside_sites.specs.Accepted.{Accepted}
use Rattle.outside_sites.proofs.OutsideLaws.{outside_none, first_inside, reach-below, rest-inside, product, products_are}

abbrev pub AllValid : List Items → Type 0
AllValid ps = each (λ p qs. valid p) ps ≡ true

-- after the tests of a call; `size` is the count of rows that the code finds
pub accepted : {n size rows r : ℕ} (ps : List Items) → AllValid ps → n ≤ most_spins → size ≡ rows → r < size → [] ≡ outside n ps → Accepted n rows r ps
accepted ps v h e l o = record { held = v; few = h; below = omega arith; inside = sym o }

-- ---- the products of a call

module _ {n rows r : ℕ} where
  -- the first of them, and the others
  pub accepted_first : (p : Items) (ps : List Items) → Accepted n rows r (p ∷ ps) → Within n p
  accepted_first p ps a = record { held = each_head (λ p qs. valid p) p ps a.held; sites_below_lem = reach-below n p ps a.inside }

  pub accepted_rest : (p : Items) (ps : List Items) → Accepted n rows r (p ∷ ps) → Accepted n rows r ps
  accepted_rest p ps a = record { held = each_tail (λ p qs. valid p) p ps a.held; few = a.few; below = a.below; inside = rest-inside n p ps a.inside }

  accepted_none : (ps : List Items) → Accepted n rows r ps → Accepted n rows r []
  unfolding each
  accepted_none ps a = record { held = refl; few = a.few; below = a.below; inside = outside_none n }

  accepted_cons : (p : Items) (ps : List Items) → Within n p → Accepted n rows r ps → Accepted n rows r (p ∷ ps)
  accepted_cons p ps w a =
      record {
        held = each_cons (λ p qs. valid p) p ps w.held a.held;
        few = a.few;
        below = a.below;
        inside = first_inside n p ps refl w.sites_below_lem ∙ a.inside;
      }

  -- of two lists, each
  pub accepted_left : (a b : List Items) → Accepted n rows r (a ++ b) → Accepted n rows r a
  accepted_left [] b k = accepted_none b k
  accepted_left (p ∷ a) b k = accepted_cons p a (accepted_first p (a ++ b) k) (accepted_left a b (accepted_rest p (a ++ b) k))

  pub accepted_right : (a b : List Items) → Accepted n rows r (a ++ b) → Accepted n rows r b
  accepted_right [] b k = k
  accepted_right (p ∷ a) b k = accepted_right a b (accepted_rest p (a ++ b) k)

  -- of terms with the products g, those of the term at a place
  pub accepted_at : {A : Type 0} (g : A → List Items) (l : List A) (i : ℕ) (d : A) → i < length l → Accepted n rows r (concat_map g l) → Accepted n rows r (g (get_or l i d))
  accepted_at g [] i d h k = absurd (not-suc-le-zero h)
  accepted_at g (x ∷ l) zero d h k = accepted_left (g x) (concat_map g l) (subst (Accepted n rows r) (concat_map_cons g x l) k)
  accepted_at g (x ∷ l) (suc i) d h k = accepted_at g l i d (le_of_suc-le-suc h) (accepted_right (g x) (concat_map g l) (subst (Accepted n rows r) (concat_map_cons g x l) k))

  pub product_accepted : (l : List Term) (i : ℕ) (d : Term) → i < length l → Accepted n rows r (items_of l) → Accepted n rows r ((get_or l i d).key ∷ [])
  product_accepted l i d h k = accepted_at product l i d h (subst (Accepted n rows r) (sym (products_are l)) k)

  pub sides_accepted : (l : List NoiseTerm) (i : ℕ) (d : NoiseTerm) → i < length l → Accepted n rows r (pairs.sides_of l) → Accepted n rows r (sides (get_or l i d))
  unfolding pairs.sides_of
  sides_accepted l i d h k = accepted_at sides l i d h k

-- ---- the products of valid sets

pub all_both : (a b : List Items) → AllValid a → AllValid b → AllValid (a ++ b)
all_both [] b e f = f
all_both (p ∷ a) b e f = each_cons (λ p qs. valid p) p (a ++ b) (each_head (λ p qs. valid p) p a e) (all_both a b (each_tail (λ p qs. valid p) p a e) f)

pub operator_valid : (zeros : Bool) (s : TermSet) → complexes.valid_set zeros s ≡ true → AllValid (items_of (complexes.held_by s))
operator_valid zeros s e = each_results (λ (t : Term) ts. valid t.key) (λ p ps. valid p) (λ t. t.key) (λ t ts h. h) (complexes.held_by s) (set-laws.valid-products zeros s e)

pub hamiltonian-valid : (h : PauliHamiltonian) → reals.valid_set h ≡ true → AllValid (items_of (hamiltonian_terms h))
hamiltonian-valid h e =
    each_results (λ (t : Term) ts. valid t.key) (λ p ps. valid p) (λ t. t.key) (λ t ts h. h) (hamiltonian_terms h)
    (each_results (λ t ts. valid t.key) (λ (t : Term) ts. valid t.key) reals.complex_term (λ t ts h. h) (reals.held_by h) (real-laws.valid-products h e))

-- both sides of noise terms with good keys
sides-valid : (l : List NoiseTerm) → each (λ t ts. pairs.good_key t.key) l ≡ true → AllValid (concat_map sides l)
unfolding each concat_map
sides-valid [] e = refl
sides-valid (t ∷ l) e =
    let key = each_head (λ t ts. pairs.good_key t.key) t l e in
    let both = and_left (valid_key t.key) (not (pairs.is_empty t.key.0) && not (pairs.is_empty t.key.1)) key in
    each_cons (λ p qs. valid p) t.key.0 (t.key.1 ∷ concat_map sides l) (and_left (valid t.key.0) (valid t.key.1) both)
    (each_cons (λ p qs. valid p) t.key.1 (concat_map sides l) (and_right (valid t.key.0) (valid t.key.1) both)
    (sides-valid l (each_tail (λ t ts. pairs.good_key t.key) t l e)))

pub noise-valid : (s : NoiseSet) → pairs.valid_set s ≡ true → AllValid (pairs.sides_of (pairs.held_by s))
unfolding pairs.sides_of
noise-valid s e = sides-valid (pairs.held_by s) (pair-laws.valid-keys s e)
