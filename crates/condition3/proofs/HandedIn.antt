-- A system handed in that number 0 lets pass is what the list that sets its terms in their order makes.
-- Assumes nothing.
use Prim.Native.Nat.{◌≤◌, ◌<◌}
use native.Mathlib.Omega.{arith}
use mathlib.Core.Path.{◌≡◌, refl, sym, ap, subst, ◌∙◌}
use mathlib.Core.Bool.{Bool, true, false, not, ◌||◌, ◌&&◌, or-true, true≢false}
use mathlib.Core.List.{List, [], ◌∷◌, ◌++◌, map, append-nil, append_assoc}
use lib.ListN.{length, length-append}
use borrow.Author.Tests.{lt-ltb, not-true}
use Rattle.letters.proofs.TestLaws.{and_true, and_left, and_right}
use Rattle.complex.specs.Coefficients.{Coefficients, reals, complexes}
use Rattle.terms.specs.Keyed.{has, each}
use Rattle.terms.specs.Kind.{Terms}
use Rattle.terms.specs.Setting.{most_terms, keyed, write, has_room}
use Rattle.terms.proofs.KeyedLaws.{each_cons, each_head, each_tail, nowhere, has_false}
use Rattle.condition3.specs.Runs.{run}
use Rattle.condition3.proofs.RunLaws.{run_append}
use Rattle.terms.specs.Places.{good_term}
use Rattle.terms.proofs.GoodLaws.{good_key_lem, good_coefficient_lem, good_different, good_keys, good_coefficients, good_differents}
use Rattle.terms.proofs.SettingLaws.{Alike, different, write-other}
use Rattle.terms.proofs.FilledLaws.{held_in, held-filled}
use Rattle.term_sets.specs.Sets.{good_coefficient}
use Rattle.hamiltonians.specs.Reals.{RealTerm}
use Rattle.hamiltonians.specs.Reals as hamiltonians
use Rattle.hamiltonians.specs.RealAnswers.{set_real}
use Rattle.hamiltonians.specs.declared.PauliHamiltonian.{PauliHamiltonian}
use Rattle.hamiltonians.proofs.RealValidLaws.{valid_hamiltonians}
use Rattle.hamiltonians.proofs.RealValidLaws as real_valid
use Rattle.terms.proofs.ValidSetLaws.{ValidSets}
use Rattle.terms.proofs.ValidSetLaws as valid_sets
use Rattle.noise_sets.specs.Pairs.{NoiseTerm, NoiseSet}
use Rattle.noise_sets.specs.Pairs as pairs
use Rattle.noise_sets.specs.Answers.{valid_key, empty_side, set_pair}
use Rattle.noise_sets.proofs.ValidLaws.{valid_noise_sets}
use Rattle.noise_sets.proofs.ValidLaws as pairs_valid
use Rattle.condition3.specs.Calls.{set_hamiltonian, set_noise, called, sets_after, calls_that_set}

-- ---- a term with a new key is written at the end

module _ {K N : Type 0} (S : Terms K N) where
  -- no term of a list has the key: neither has the one at a place
  none_there : (p : S.Term → Bool) (l : List S.Term) (t : S.Term) (r : List S.Term) → has p (l ++ t ∷ r) ≡ false → p t ≡ false
  unfolding has
  none_there p [] t r e = go (p t) refl e
    where
      go : (b : Bool) → p t ≡ b → (b || has p r) ≡ false → p t ≡ false
      go true f e = absurd (true≢false e)
      go false f e = f
  none_there p (x ∷ l) t r e = go (p x) (none_there p l t r) e
    where
      go : (b : Bool) → (has p (l ++ t ∷ r) ≡ false → p t ≡ false) → (b || has p (l ++ t ∷ r)) ≡ false → p t ≡ false
      go true h e = absurd (true≢false e)
      go false h e = h e

  -- a key that differs from all later ones differs from all earlier ones
  none_before : Alike S → (l : List S.Term) (t : S.Term) (r : List S.Term) → each (different S) (l ++ t ∷ r) ≡ true → has (keyed S (S.key t)) l ≡ false
  unfolding has
  none_before A [] t r e = refl
  none_before A (x ∷ l) t r e =
      go (S.same (S.key x) (S.key t)) refl (none_before A l t r (each_tail (different S) x (l ++ t ∷ r) e))
    where
      later : S.same (S.key t) (S.key x) ≡ false
      later = none_there (keyed S (S.key x)) l t r (not-true (has (keyed S (S.key x)) (l ++ t ∷ r)) (each_head (different S) x (l ++ t ∷ r) e))

      go : (b : Bool) → S.same (S.key x) (S.key t) ≡ b → has (keyed S (S.key t)) l ≡ false → (b || has (keyed S (S.key t)) l) ≡ false
      go true f h = absurd (true≢false (sym (A.swap (S.key x) (S.key t) f) ∙ later))
      go false f h = h

  pub write_new : (k : K) (a : N) (l : List S.Term) → S.is_zero a ≡ false → has (keyed S k) l ≡ false → write S k a l ≡ l ++ S.term k a ∷ []
  write_new k a l z h = write-other S k a l z ∙ (nowhere (keyed S k) l (has_false (keyed S k) l h)).written (S.term k a)

  pub room_for_new : (k : K) (a : N) (l : List S.Term) → length l < most_terms → has_room S k a l ≡ true
  unfolding has_room
  room_for_new k a l few = rw (lt-ltb (length l) most_terms few) (ap (λ b. S.is_zero a || b) (or-true (has (keyed S k) l)) ∙ or-true (S.is_zero a))

  -- ---- what a term in a list has

  -- a test of each element, of the one at a place, and of the elements before it
  each_there : (p : S.Term → List S.Term → Bool) (l : List S.Term) (t : S.Term) (r : List S.Term) → each p (l ++ t ∷ r) ≡ true → p t r ≡ true
  each_there p [] t r e = each_head p t r e
  each_there p (x ∷ l) t r e = each_there p l t r (each_tail p x (l ++ t ∷ r) e)

  has-before : (p : S.Term → Bool) (l r : List S.Term) → has p (l ++ r) ≡ false → has p l ≡ false
  unfolding has
  has-before p [] r e = refl
  has-before p (x ∷ l) r e = go (p x) (has-before p l r) e
    where
      go : (b : Bool) → (has p (l ++ r) ≡ false → has p l ≡ false) → (b || has p (l ++ r)) ≡ false → (b || has p l) ≡ false
      go true h e = e
      go false h e = h e

  module _ (good_key : K → Bool) (good_coefficient : N → Bool) where
    good_before : (l r : List S.Term) → each (good_term S good_key good_coefficient) (l ++ r) ≡ true → each (good_term S good_key good_coefficient) l ≡ true
    unfolding each good_term
    good_before [] r e = refl
    good_before (x ∷ l) r e =
        let g = each_head (good_term S good_key good_coefficient) x (l ++ r) e in
        each_cons (good_term S good_key good_coefficient) x l
        (and_true (good_key_lem S good_key good_coefficient x (l ++ r) g) (and_true (good_coefficient_lem S good_key good_coefficient x (l ++ r) g)
        (ap not (has-before (keyed S (S.key x)) l r (not-true (has (keyed S (S.key x)) (l ++ r)) (good_different S good_key good_coefficient x (l ++ r) g))))))
        (good_before l r (each_tail (good_term S good_key good_coefficient) x (l ++ r) e))

-- ---- steps that append the elements of a list, one after the other

module _ {A C O : Type 0} (step : C → O → O) (call : A → C) (state : List A → O) (Whole : List A → Type 0) (appends : (l : List A) (t : A) (r : List A) → Whole (l ++ t ∷ r) → step (call t) (state l) ≡ state (l ++ t ∷ [])) where
  pub run_appends : (l r : List A) → Whole (l ++ r) → run step (map call r) (state l) ≡ state (l ++ r)
  unfolding run
  run_appends l [] w = ap state (sym (append-nil l))
  run_appends l (t ∷ r) w =
      ap (run step (map call r)) (appends l t r w)
      ∙ run_appends (l ++ t ∷ []) r (subst Whole (sym (append_assoc l (t ∷ []) r)) w)
      ∙ ap state (append_assoc l (t ∷ []) r)

-- ---- the next term of a valid set, set under its own key

-- a coefficient that a set without zeros may hold
in_range_nonzero : {N : Type 0} (c : Coefficients N) (a : N) → good_coefficient c false a ≡ true → (c.in_range a ≡ true) × (c.is_zero a ≡ false)
in_range_nonzero c a e = (and_left (c.in_range a) (not (c.is_zero a)) e, not-true (c.is_zero a) (and_right (c.in_range a) (not (c.is_zero a)) e))

-- what the terms of a valid set have
abbrev Fit : {K N R : Type 0} {S : Terms K N} → ValidSets S R → List S.Term → Type 0
Fit {S = S} W l = (length l ≤ most_terms) × (each (good_term S W.good_key W.good_coefficient) l ≡ true)

-- the terms l make a valid set, and t can be set in it, at the end
record Next {K N R : Type 0} {S : Terms K N} (W : ValidSets S R) (l : List S.Term) (t : S.Term) : Type 0 where
  before : W.valid (W.sets.filled l) ≡ true
  key : W.good_key (S.key t) ≡ true
  range : W.in_range (S.coefficient t) ≡ true
  room : has_room S (S.key t) (S.coefficient t) (held_in W.sets (W.sets.filled l)) ≡ true
  written : write S (S.key t) (S.coefficient t) (held_in W.sets (W.sets.filled l)) ≡ l ++ t ∷ []

-- `apart` says that a good coefficient is in range and not zero; terms are their keys and coefficients
next : {K N R : Type 0} {S : Terms K N} (W : ValidSets S R) → ((a : N) → W.good_coefficient a ≡ true → (W.in_range a ≡ true) × (S.is_zero a ≡ false))
    → ((t : S.Term) → S.term (S.key t) (S.coefficient t) ≡ t) → (l : List S.Term) (t : S.Term) (r : List S.Term) → Fit W (l ++ t ∷ r) → Next W l t
next {K} {N} {S = S} W apart own l t r g =
    let b = good_before S W.good_key W.good_coefficient l (t ∷ r) g.1 in
    record {
      before =
          valid_sets.filled-valid W l (omega (arith, g.0, length-append l (t ∷ r)))
          (good_keys S W.good_key W.good_coefficient l b) (good_coefficients S W.good_key W.good_coefficient l b) (good_differents S W.good_key W.good_coefficient l b);
      key = good_key_lem S W.good_key W.good_coefficient t r here;
      range = c.0;
      room = ap (has_room S k a) held ∙ room_for_new S k a l (omega (arith, g.0, length-append l (t ∷ r)));
      written =
          ap (write S k a) held
          ∙ write_new S k a l c.1 (none_before S W.alike l t r (good_differents S W.good_key W.good_coefficient (l ++ t ∷ r) g.1))
          ∙ ap (λ x. l ++ x ∷ []) (own t);
    }
  where
    k : K
    k = S.key t

    a : N
    a = S.coefficient t

    here : good_term S W.good_key W.good_coefficient t r ≡ true
    here = each_there S (good_term S W.good_key W.good_coefficient) l t r g.1

    c : (W.in_range a ≡ true) × (S.is_zero a ≡ false)
    c = apart a (good_coefficient_lem S W.good_key W.good_coefficient t r here)

    held : held_in W.sets (W.sets.filled l) ≡ l
    held = held-filled W.sets l

-- of a Hamiltonian
set_real_new : (w : NoiseSet) (l : List RealTerm) (t : RealTerm) (r : List RealTerm) → Fit valid_hamiltonians (l ++ t ∷ r)
    → called (set_hamiltonian t.key t.coefficient) (record { hamiltonian = hamiltonians.filled l; noise = w }) ≡ record { hamiltonian = hamiltonians.filled (l ++ t ∷ []); noise = w }
unfolding called set_real
set_real_new w l t r g =
    let n = next valid_hamiltonians (in_range_nonzero reals) (λ t. refl) l t r g in
    ap (λ h. record { hamiltonian = h; noise = w }) (rw (n.before, n.key, n.range, n.room) refl ∙ ap hamiltonians.filled n.written)

-- of a noise set, where a good key has two valid products and no empty side
no_empty_side : (k : pairs.Key) → pairs.good_key k ≡ true → empty_side k ≡ false
no_empty_side k e = go (pairs.is_empty k.0) (pairs.is_empty k.1) (and_right (valid_key k) (not (pairs.is_empty k.0) && not (pairs.is_empty k.1)) e)
  where
    go : (a b : Bool) → (not a && not b) ≡ true → (a || b) ≡ false
    go true b e = sym e
    go false b e = not-true b e

set_pair_new : (h : PauliHamiltonian) (l : List NoiseTerm) (t : NoiseTerm) (r : List NoiseTerm) → Fit valid_noise_sets (l ++ t ∷ r)
    → called (set_noise t.key t.coefficient) (record { hamiltonian = h; noise = pairs.filled l }) ≡ record { hamiltonian = h; noise = pairs.filled (l ++ t ∷ []) }
unfolding called set_pair
set_pair_new h l t r g =
    let n = next valid_noise_sets (in_range_nonzero complexes) (λ t. refl) l t r g in
    let valid = and_left (valid_key t.key) (not (pairs.is_empty t.key.0) && not (pairs.is_empty t.key.1)) n.key in
    ap (λ w. record { hamiltonian = h; noise = w }) (rw (n.before, valid, no_empty_side t.key n.key, n.range, n.room) refl ∙ ap pairs.filled n.written)

-- ---- both

pub set_again : (h : PauliHamiltonian) (w : NoiseSet) → hamiltonians.valid_set h ≡ true → pairs.valid_set w ≡ true → sets_after (calls_that_set h w) ≡ record { hamiltonian = h; noise = w }
unfolding sets_after calls_that_set
set_again h w v u =
    let a = real_valid.valid-parts h v in
    let b = pairs_valid.valid-parts w u in
    run_append called (map _ (hamiltonians.held_by h)) (map _ (pairs.held_by w)) _
    ∙ ap (run called (map _ (pairs.held_by w)))
    (run_appends called (λ t. set_hamiltonian t.key t.coefficient) (λ l. record { hamiltonian = hamiltonians.filled l; noise = pairs.filled [] }) (Fit valid_hamiltonians) (set_real_new (pairs.filled [])) [] (hamiltonians.held_by h) (valid_sets.valid-few valid_hamiltonians h v, a.good)
    ∙ ap (λ x. record { hamiltonian = x; noise = pairs.filled [] }) (sym (real_valid.valid_own h v)))
    ∙ run_appends called (λ t. set_noise t.key t.coefficient) (λ l. record { hamiltonian = h; noise = pairs.filled l }) (Fit valid_noise_sets) (set_pair_new h) [] (pairs.held_by w) (valid_sets.valid-few valid_noise_sets w u, b.good)
    ∙ ap (λ x. record { hamiltonian = h; noise = x }) (sym (pairs_valid.valid_own w u))
