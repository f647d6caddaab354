-- The answers of the entries on noise sets: every accepted answer is a valid record, and beside a refusal stands the first set given.
-- Assumes nothing.
use Prim.Native.Nat.{ℕ, ◌<◌}
use native.Mathlib.Omega.{arith}
use mathlib.Core.Path.{◌≡◌, refl, sym, subst}
use mathlib.Core.Bool.{Bool, true, false, not, ◌&&◌, ◌||◌, cond}
use mathlib.Core.List.{List, [], ◌∷◌, map}
use lib.Dec.{eqb}
use borrow.Author.Tests.{eqb-false, ne_eqb, not-true}
use Rattle.refusal.specs.Refusals.{Said, gives, refuses, done}
use Rattle.letters.proofs.TestLaws.{and_true, and_left, and_right}
use Rattle.complex.specs.Complex.{is_zero, in_range}
use Rattle.complex.specs.declared.Complex.{Complex}
use Rattle.items.specs.Lists.{at}
use Rattle.items.specs.Record.{valid, letter_at}
use Rattle.remapping.specs.Targets.{remap_answer}
use Rattle.items.specs.declared.Items.{Items}
use Rattle.items.proofs.RecordLaws.{valid-at, letter_here, letter_occupied}
use Rattle.remapping.proofs.RemapLaws.{Movable, remap_valid, remap_letter, remap_movable}
use Rattle.terms.specs.Chains.{and_then, full_terms}
use Rattle.terms.proofs.KeyedLaws.{All, all_nil, all_cons, all_each}
use Rattle.terms.proofs.EachLaws.{all_results, all_lists}
use Rattle.terms.proofs.AnswerLaws.{Answered, answered_past, answered_unless, not_both}
use Rattle.terms.proofs.StepLaws.{given-same, giving_terms}
use Rattle.terms.proofs.ValidSetLaws as laws
use Rattle.term_sets.specs.Complexes.{Term, TermSet, complex_terms, complex_products}
use Rattle.term_sets.specs.Complexes as operators
use Rattle.chains.proofs.ValidAnswers.{HasValid, held_products}
use Rattle.noise_sets.specs.Pairs.{Key, NoiseTerm, NoiseSet, pair_terms, pair_of, is_empty, held_by, good_key, valid_set}
use Rattle.noise_sets.specs.Answers.{valid_key, empty_side, set_pair, add_pair}
use Rattle.full_operators.specs.FullAnswers.{add_full_operators}
use Rattle.noise_remapping.specs.RemapAnswers.{remap_step, remap_set}
use Rattle.noise_sets.proofs.ValidLaws.{valid_noise_sets, key_good, valid-keys}

-- ---- one term

module _ (s : NoiseSet) (k : Key) (a : Complex) where
  set_answer_lem : Answered (λ x. valid_set x ≡ true) s (set_pair s k a)
  unfolding set_pair
  set_answer_lem =
      answered_past (valid_set s) _ _ _ (λ v.
      answered_past (valid_key k) _ _ _ (λ w.
      answered_unless (empty_side k) _ _ _ (λ e.
      laws.set_valid valid_noise_sets s k a v (key_good k w e) (λ t. t.coefficient))))

  -- what an accepted setting leaves is valid
  pub set_valid : (o : List Complex) (x : NoiseSet) → set_pair s k a ≡ (gives o, x) → valid_set x ≡ true
  set_valid = set_answer_lem.holds

  -- the set given stands beside a refusal
  pub set_refused : (n : ℕ) (l : List ℕ) → (set_pair s k a).0 ≡ refuses n l → (set_pair s k a).1 ≡ s
  set_refused = set_answer_lem.kept

  add_answer : Answered (λ x. valid_set x ≡ true) s (add_pair s k a)
  unfolding add_pair
  add_answer =
      answered_past (valid_set s) _ _ _ (λ v.
      answered_past (valid_key k) _ _ _ (λ w.
      answered_unless (empty_side k) _ _ _ (λ e.
      laws.add_valid valid_noise_sets s k a v (key_good k w e))))

  -- what an accepted addition leaves is valid
  pub add_valid : (x : NoiseSet) → add_pair s k a ≡ (done, x) → valid_set x ≡ true
  add_valid = add_answer.holds tt

  -- the set given stands beside a refusal
  pub add_refused : (n : ℕ) (l : List ℕ) → (add_pair s k a).0 ≡ refuses n l → (add_pair s k a).1 ≡ s
  add_refused = add_answer.kept

-- ---- full operators

-- a term's key is good
abbrev HasGood : NoiseTerm → Type 0
HasGood t = good_key t.key ≡ true

-- terms that a chain on noise sets can hold, and those of a valid set
abbrev Sound : List NoiseTerm → Type 0
Sound = laws.Sound pair_terms good_key

sound_held : (s : NoiseSet) → valid_set s ≡ true → Sound (held_by s)
sound_held = laws.sound_held valid_noise_sets (λ a. and_right (in_range a) (not (is_zero a)))

-- the pair of two valid products, which is passed over where one is empty
pair_good : (p q : Items) (a : Complex) → valid p ≡ true → valid q ≡ true → All HasGood (cond (not (is_empty p) && not (is_empty q)) (pair_of (p, q) a ∷ []) [])
pair_good p q a v w = go (not (is_empty p) && not (is_empty q)) refl
  where
    go : (b : Bool) → (not (is_empty p) && not (is_empty q)) ≡ b → All HasGood (cond b (pair_of (p, q) a ∷ []) [])
    go true e = all_cons HasGood (pair_of (p, q) a) [] (and_true (and_true v w) e) (all_nil HasGood)
    go false e = all_nil HasGood

-- the pairs of two operators' terms
full_good : (a : Complex) (l r : List Term) → All HasValid l → All HasValid r → All HasGood (full_terms complex_terms pair_terms complex_products is_empty a l r)
unfolding full_terms
full_good a l r hl hr = all_lists HasValid HasGood _ (λ x hx. all_lists HasValid HasGood _ (λ y hy. pair_good x.key y.key _ hx hy) r hr) l hl

module _ (s : NoiseSet) (l r : TermSet) (a : Complex) where
  full_answer : Answered (λ x. valid_set x ≡ true) s (add_full_operators s l r a)
  unfolding add_full_operators
  full_answer =
      answered_past (valid_set s) _ _ _ (λ v.
      answered_past (operators.valid_set false l) _ _ _ (λ hl.
      answered_past (operators.valid_set false r) _ _ _ (λ hr.
      answered_unless (eqb l.count 0 || eqb r.count 0) _ _ _ (λ e.
      answered_past (in_range a) _ _ _ (λ q.
      laws.chain_valid valid_noise_sets s _ (held_by s)
      (giving_terms pair_terms HasGood _ (full_good a (operators.held_by l) (operators.held_by r) (held_products false l hl) (held_products false r hr))) (sound_held s v))))))

  -- what an accepted addition of two operators' pairs leaves is valid
  pub full_valid : (x : NoiseSet) → add_full_operators s l r a ≡ (done, x) → valid_set x ≡ true
  full_valid = full_answer.holds tt

  -- the set given stands beside a refusal
  pub full_refused : (n : ℕ) (m : List ℕ) → (add_full_operators s l r a).0 ≡ refuses n m → (add_full_operators s l r a).1 ≡ s
  full_refused = full_answer.kept

-- ---- remapping

-- a valid product with a site
record Occupied (p : Items) : Type 0 where
  fine : valid p ≡ true
  there : is_empty p ≡ false

-- what a product with a site is after it is moved
moved_occupied : (t : ℕ → ℕ) (p : Items) → is_empty p ≡ false → (remap_answer t p).0 ≡ done → Occupied (remap_answer t p).1
moved_occupied t p e d =
    let q = (remap_answer t p).1 in
    let m : Movable t p = remap_movable t p q (λ j. (d j, q)) in
    let some-site : 0 < p.count = omega (arith, eqb-false p.count 0 e) in
    let site = at p.sites 0 in
    let here = letter_here p m.well_formed 0 some-site in
    let there = (valid-at p m.well_formed 0 some-site).letter_there in
    let occupied : 0 < letter_at p site = omega (arith, here, there) in
    let place = letter_occupied q (t site) (omega (arith, remap_letter t p m site occupied, occupied)) in
    record { fine = remap_valid t p m; there = ne_eqb q.count 0 (λ z. omega (arith, place.1, z)) }

-- neither side of a good key is empty
sides_there : (k : Key) → good_key k ≡ true → (not (is_empty k.0) && not (is_empty k.1)) ≡ true
sides_there k = and_right (valid_key k) (not (is_empty k.0) && not (is_empty k.1))

left_there : (k : Key) → good_key k ≡ true → is_empty k.0 ≡ false
left_there k g = not-true (is_empty k.0) (and_left (not (is_empty k.0)) (not (is_empty k.1)) (sides_there k g))

right_there : (k : Key) → good_key k ≡ true → is_empty k.1 ≡ false
right_there k g = not-true (is_empty k.1) (and_right (not (is_empty k.0)) (not (is_empty k.1)) (sides_there k g))

-- the key of a moved term
moved_good : (t : ℕ → ℕ) (k : Key) → good_key k ≡ true → (remap_answer t k.0).0 ≡ done → (remap_answer t k.1).0 ≡ done → good_key ((remap_answer t k.0).1, (remap_answer t k.1).1) ≡ true
moved_good t k g d e =
    let l = moved_occupied t k.0 (left_there k g) d in
    let r = moved_occupied t k.1 (right_there k g) e in
    key_good ((remap_answer t k.0).1, (remap_answer t k.1).1) (and_true l.fine r.fine) (rw (l.there, r.there))

-- the term that a step gives has a good key where the term moved has one
step_good : (t : ℕ → ℕ) (x : NoiseTerm) → HasGood x → (y : NoiseTerm) → remap_step t x ≡ gives y → HasGood y
unfolding remap_step
step_good t x g y e = go left.0 right.0 refl refl e
  where
    left : Said Unit × Items
    left = remap_answer t x.key.0

    right : Said Unit × Items
    right = remap_answer t x.key.1

    go : (a b : Said Unit) → left.0 ≡ a → right.0 ≡ b
        → and_then (and_then a (λ u. gives left.1)) (λ p. and_then (and_then b (λ u. gives right.1)) (λ q. gives (pair_of (p, q) x.coefficient))) ≡ gives y → HasGood y
    go (gives u) (gives v) d f h = subst HasGood (given-same _ y h) (moved_good t x.key g d f)
    go (gives u) (refuses n l) d f h = absurd (not_both y n l (sym h))
    go (refuses n l) b d f h = absurd (not_both y n l (sym h))

module _ (t : ℕ → ℕ) (s : NoiseSet) where
  remap_answer_lem : Answered (λ x. valid_set x ≡ true) s (remap_set t s)
  unfolding remap_set
  remap_answer_lem =
      answered_past (valid_set s) _ _ _ (λ v.
      laws.chain_valid valid_noise_sets s (map (remap_step t) (held_by s)) []
      (all_results HasGood _ (remap_step t) (step_good t) (held_by s) (all_each (λ x. good_key x.key) (held_by s) (valid-keys s v)))
      (laws.sound_none valid_noise_sets))

  -- an accepted remapping is valid
  pub remap_set-valid : (x : NoiseSet) → remap_set t s ≡ (done, x) → valid_set x ≡ true
  remap_set-valid = remap_answer_lem.holds tt

  -- the set given stands beside a refusal
  pub remap_set_refused : (n : ℕ) (l : List ℕ) → (remap_set t s).0 ≡ refuses n l → (remap_set t s).1 ≡ s
  remap_set_refused = remap_answer_lem.kept
