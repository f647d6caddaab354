-- Terms as judging hands them out: masks joined, and that no product whose masks are joined in one that fits n spins
-- has a site at n or above.
-- Assumes nothing.
use Prim.Native.Nat.{ℕ, ◌+◌, ◌/◌, ◌%◌, ◌^◌, ◌≤◌, ◌<◌}
use native.Mathlib.Nat.{le_trans}
use native.Mathlib.Numerals.{add-one}
use native.Mathlib.Omega.{arith}
use mathlib.Core.Path.{◌≡◌, refl, subst, ◌∙◌}
use mathlib.Core.List.{List, [], ◌∷◌, ◌++◌, map}
use lib.Bits.{bit_or, and_le_l, and_le_r, or_add_and, or_mod, or_shr}
use lib.Ieee.{Float}
use lib.ListN.{length, take, get_or}
use lib.Seq.{take-suc, take_all}
use Rattle.complex.specs.declared.Complex.{Complex}
use Rattle.items.specs.Record.{valid}
use Rattle.items.specs.Masks.{masks_of, flip_of, sign_of}
use Rattle.items.specs.declared.Items.{Items}
use Rattle.items.proofs.MaskLaws.{reach_masked}
use Rattle.terms.specs.Keyed.{concat_map}
use Rattle.terms.proofs.KeyedLaws.{All, all_nil, all_cons, all_head, all_tail, all_map, each_head, each_tail}
use Rattle.terms.proofs.EachLaws.{all_results}
use Rattle.rows.specs.Calls.{outside}
use Rattle.term_sets.specs.Complexes.{Term, items_of}
use Rattle.term_sets.specs.declared.judging.MaskedTerm.{MaskedTerm}
use Rattle.noise_sets.specs.Pairs.{NoiseTerm, sides, sides_of}
use Rattle.outside_sites.proofs.OutsideLaws.{outside_none, first_inside}
use Rattle.outside_sites.proofs.AcceptedLaws.{AllValid}
use Rattle.open_rows.specs.Masked.{as_complex, masked, masked_pair}

-- ---- masks joined

-- a number is at most what it is joined to
or_le_l : (a b : ℕ) → a ≤ bit_or a b
or_le_l a b = omega (arith, or_add_and a b, and_le_r a b)

or_le_r : (a b : ℕ) → b ≤ bit_or a b
or_le_r a b = omega (arith, or_add_and a b, and_le_l a b)

-- both halves of m are at most those of all
pub record Below (all m : ℕ) : Type 0 where
  pub low : m % 2 ^ 32 ≤ all % 2 ^ 32
  pub high : m / 2 ^ 32 ≤ all / 2 ^ 32

pub below_old : (all new m : ℕ) → Below all m → Below (bit_or all new) m
below_old all new m b =
    record {
      low = le_trans b.low (rw (or_mod all new 32) (or_le_l (all % 2 ^ 32) (new % 2 ^ 32)));
      high = le_trans b.high (rw (or_shr all new 32) (or_le_l (all / 2 ^ 32) (new / 2 ^ 32)));
    }

pub below_new : (all new : ℕ) → Below (bit_or all new) new
below_new all new =
    record {
      low = rw (or_mod all new 32) (or_le_r (all % 2 ^ 32) (new % 2 ^ 32));
      high = rw (or_shr all new 32) (or_le_r (all / 2 ^ 32) (new / 2 ^ 32));
    }

-- all joins the masks of a term of a Hamiltonian, and of a noise term
pub record LeftBelow {N : Type 0} (all : ℕ) (t : MaskedTerm N) : Type 0 where
  pub left : Below all t.masks.left

pub record BothBelow {N : Type 0} (all : ℕ) (t : MaskedTerm N) : Type 0 where
  pub left : Below all t.masks.left
  pub right : Below all t.masks.right

-- one element more
all_last : {A : Type 0} (P : A → Type 0) (l : List A) (x : A) → All P l → P x → All P (l ++ x ∷ [])
all_last P [] x a b = all_cons P x [] b (all_nil P)
all_last P (y ∷ l) x a b = all_cons P y (l ++ x ∷ []) (all_head P y l a) (all_last P l x (all_tail P y l a) b)

pub all_next : {A : Type 0} (P Q : A → Type 0) (l : List A) (i : ℕ) (d : A) → i < length l → ((x : A) → P x → Q x) → All P (take i l) → Q (get_or l i d) → All Q (take (i + 1) l)
all_next P Q l i d h grows a b = rw (add-one i, take-suc l i d h) (all_last Q (take i l) (get_or l i d) (all_map P Q grows (take i l) a) b)

-- ---- masks that fit n spins

-- both halves of all are below 2^n
module _ (n all : ℕ) (f : (all % 2 ^ 32 < 2 ^ n) × (all / 2 ^ 32 < 2 ^ n)) where
  first_fits : (p : Items) (ps : List Items) → AllValid (p ∷ ps) → Below all (masks_of p) → outside n (p ∷ ps) ≡ outside n ps
  unfolding flip_of sign_of
  first_fits p ps v b =
      first_inside n p ps refl (reach_masked p (each_head (λ p qs. valid p) p ps v) n (omega (arith, b.low, f.0)) (omega (arith, b.high, f.1)))

  terms_inside : (h : List Term) → AllValid (items_of h) → All (LeftBelow all) (map masked h) → outside n (items_of h) ≡ []
  terms_inside [] v a = outside_none n
  terms_inside (t ∷ h) v a =
      first_fits t.key (items_of h) v (all_head (LeftBelow all) (masked t) (map masked h) a).left
      ∙ terms_inside h (each_tail (λ p qs. valid p) t.key (items_of h) v) (all_tail (LeftBelow all) (masked t) (map masked h) a)

  sides_inside : (w : List NoiseTerm) → AllValid (concat_map sides w) → All (BothBelow all) (map masked_pair w) → outside n (concat_map sides w) ≡ []
  unfolding concat_map
  sides_inside [] v a = outside_none n
  sides_inside (t ∷ w) v a =
      let b = all_head (BothBelow all) (masked_pair t) (map masked_pair w) a in
      let v' = each_tail (λ p qs. valid p) t.key.0 (t.key.1 ∷ concat_map sides w) v in
      first_fits t.key.0 (t.key.1 ∷ concat_map sides w) v b.left
      ∙ first_fits t.key.1 (concat_map sides w) v' b.right
      ∙ sides_inside w (each_tail (λ p qs. valid p) t.key.1 (concat_map sides w) v') (all_tail (BothBelow all) (masked_pair t) (map masked_pair w) a)

  -- the masks of all terms are joined
  pub terms_done : {l m : List (MaskedTerm Float)} {i : ℕ} → l ≡ m → length l ≤ i → All (LeftBelow all) (take i l) → (h : List Term) → AllValid (items_of h) → map as_complex m ≡ map masked h
      → outside n (items_of h) ≡ []
  terms_done {l} {m} {i} is e a h v g =
      terms_inside h v
      (subst (All (LeftBelow all)) g
      (all_results (LeftBelow all) (LeftBelow all) as_complex (λ t b. record { left = b.left }) m (subst (All (LeftBelow all)) (take_all i l e ∙ is) a)))

  pub pairs_done : {l m : List (MaskedTerm Complex)} {i : ℕ} → l ≡ m → length l ≤ i → All (BothBelow all) (take i l) → (w : List NoiseTerm) → AllValid (sides_of w) → m ≡ map masked_pair w
      → outside n (sides_of w) ≡ []
  unfolding sides_of
  pairs_done {l} {i = i} is e a w v g = sides_inside w v (subst (All (BothBelow all)) (take_all i l e ∙ is ∙ g) a)
