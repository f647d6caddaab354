-- Two products brought together site by site: what one step finds, and what is known between two steps.
-- Assumes nothing.
use mathlib.Core.Path.{◌≡◌, refl, sym, ap, ap₂, ◌∙◌, subst}
use mathlib.Core.List.{List}
use mathlib.Core.Bool.{true}
use Prim.Native.Nat.{ℕ, suc, ◌+◌, ◌%◌, ◌≤◌, ◌<◌}
use native.Mathlib.Nat.{le-max_left, le-max_right}
use native.Mathlib.Decide.{dec_lt}
use native.Mathlib.Omega.{arith}
use lib.ListN.{set, replicate}
use Rattle.letters.specs.Sums.{total}
use Rattle.letters.specs.Matrices.{Letters}
use Rattle.letters.specs.Single.{letter_of, power_of, times}
use Rattle.letters.proofs.TableLaws.{Closed}
use Rattle.items.specs.Lists.{at, support, padded}
use Rattle.items.specs.Record.{capacity, highest_site, valid, letter_at, reach, reach_of, record_of}
use Rattle.items.specs.declared.Items.{Items}
use Rattle.items.proofs.RecordLaws.{valid_shape, place_fits, valid-at, letter_here, letter_code, letter-beyond}
use Rattle.items.proofs.Cursor.{Cursor, cursor_none, cursor_gap, cursor_end, cursor_pass, cursor_stay, total_any, total_site}
use Rattle.merging.proofs.PushLaws.{pushed, push_fits, push_record, skip_record, record_any}
use Rattle.merging.proofs.StepLaws.{next, next_in, left_there, right_there}

-- ---- what a step finds

-- the product of the two letters of a site, 4 k + c for i^k and the letter c
abbrev pub met : Letters → Items → Items → ℕ → ℕ
met M p q s = times M (letter_at p s) (letter_at q s)

-- s is the first site from b on that either occupies, with its letter l and power k; the places i and j are past it
pub record Stepped (M : Letters) (p q : Items) (b s l k i j : ℕ) : Type 0 where
  pub from : b ≤ s
  pub most : s ≤ highest_site
  pub gap : (t : ℕ) → b ≤ t → t < s → met M p q t ≡ 0
  pub letter : l ≡ letter_of (met M p q s)
  pub power : k ≡ power_of (met M p q s)
  pub left : Cursor p i (suc s)
  pub right : Cursor q j (suc s)

-- what is known between two steps: every site below the bound is done
pub record Merging (M : Letters) (p q : Items) (i j count : ℕ) (sites letters : List ℕ) (power : ℕ) : Type 0 where
  pub bound : ℕ
  pub left : Cursor p i bound
  pub right : Cursor q j bound
  pub held : record { count = count; sites = sites; letters = letters } ≡ record_of (λ s. letter_of (met M p q s)) bound
  pub powered : power ≡ total (λ s. power_of (met M p q s)) bound % 4

-- equal arrays and an equal count
pub merging_same : {M : Letters} {p q : Items} {i j count count' power : ℕ} {sites sites' letters letters' : List ℕ}
    → Merging M p q i j count sites letters power → sites' ≡ sites → letters' ≡ letters → count' ≡ count → Merging M p q i j count' sites' letters' power
merging_same g a b c =
    record {
      bound = g.bound;
      left = g.left;
      right = g.right;
      held = (λ k. record { count = c k; sites = a k; letters = b k }) ∙ g.held;
      powered = g.powered;
    }

module _ (M : Letters) (closed : Closed M) (p q : Items) (v : valid p ≡ true) (w : valid q ≡ true) where
  -- a site that neither occupies, or only one
  met_none : (t : ℕ) → letter_at p t ≡ 0 → letter_at q t ≡ 0 → met M p q t ≡ 0
  met_none t a b = rw (a, b) (closed.times_zero 0 (omega arith))

  met_left : (t : ℕ) → letter_at q t ≡ 0 → met M p q t ≡ letter_at p t
  met_left t b = rw b (closed.times_zero (letter_at p t) (omega (arith, letter_code p v t)))

  met_right : (t : ℕ) → letter_at p t ≡ 0 → met M p q t ≡ letter_at q t
  met_right t a = rw a (closed.zero-times (letter_at q t) (omega (arith, letter_code q w t)))

  met_lt : (t : ℕ) → met M p q t < 16
  met_lt t = closed.times_lt (letter_at p t) (letter_at q t) (omega (arith, letter_code p v t)) (omega (arith, letter_code q w t))

  module _ {i j b : ℕ} (c : Cursor p i b) (d : Cursor q j b) {x y : ℕ} (e : x ≡ next p i) (f : y ≡ next q j)
      (more : i + j < p.count + q.count) where
    -- free below both next sites
    met_gap : (t : ℕ) → b ≤ t → t < x → t < y → met M p q t ≡ 0
    met_gap t l h k =
        met_none t
        (cursor_gap p v c t l (λ m. omega (arith, next_in p.count p.sites i m)))
        (cursor_gap q w d t l (λ m. omega (arith, next_in q.count q.sites j m)))

    -- the three cases of a step
    stepped_left : x < y → Stepped M p q b (at p.sites i) (at p.letters i) 0 (i + 1) j
    stepped_left h =
        let l = left_there p q v w i j e f more (omega arith) in
        let s = at p.sites i in
        let n : x ≡ s = e ∙ next_in p.count p.sites i l in
        let from : b ≤ s = c.after i (omega arith) l in
        let ahead : j < q.count → s < at q.sites j = λ m. omega (arith, next_in q.count q.sites j m) in
        let z : met M p q s ≡ at p.letters i = met_left s (cursor_gap q w d s from ahead) ∙ letter_here p v i l in
        let code = (valid-at p v i l).letter_most in
        record {
          from = from;
          most = (valid-at p v i l).site_most;
          gap = λ t a k. met_gap t a (omega arith) (omega arith);
          letter = omega arith;
          power = omega arith;
          left = cursor_pass p v c l;
          right = cursor_stay q w d s (omega arith) ahead;
        }

    stepped_right : y < x → Stepped M p q b (at q.sites j) (at q.letters j) 0 i (j + 1)
    stepped_right h =
        let l = right_there p q v w i j e f more (omega arith) in
        let s = at q.sites j in
        let n : y ≡ s = f ∙ next_in q.count q.sites j l in
        let from : b ≤ s = d.after j (omega arith) l in
        let ahead : i < p.count → s < at p.sites i = λ m. omega (arith, next_in p.count p.sites i m) in
        let z : met M p q s ≡ at q.letters j = met_right s (cursor_gap p v c s from ahead) ∙ letter_here q w j l in
        let code = (valid-at q w j l).letter_most in
        record {
          from = from;
          most = (valid-at q w j l).site_most;
          gap = λ t a k. met_gap t a (omega arith) (omega arith);
          letter = omega arith;
          power = omega arith;
          left = cursor_stay p v c s (omega arith) ahead;
          right = cursor_pass q w d l;
        }

    stepped_shared : y ≤ x → x ≤ y → {l k : ℕ}
        → l ≡ letter_of (times M (at p.letters i) (at q.letters j)) → k ≡ power_of (times M (at p.letters i) (at q.letters j))
        → Stepped M p q b (at p.sites i) l k (i + 1) (j + 1)
    stepped_shared h h' el ek =
        let l = left_there p q v w i j e f more h' in
        let m = right_there p q v w i j e f more h in
        let s = at p.sites i in
        let n : x ≡ s = e ∙ next_in p.count p.sites i l in
        let same : at q.sites j ≡ s = omega (arith, next_in q.count q.sites j m) in
        let here : times M (at p.letters i) (at q.letters j) ≡ met M p q s =
        ap₂ (times M) (sym (letter_here p v i l)) (sym (letter_here q w j m) ∙ ap (letter_at q) same) in
        record {
          from = c.after i (omega arith) l;
          most = (valid-at p v i l).site_most;
          gap = λ t a k. met_gap t a (omega arith) (omega arith);
          letter = el ∙ ap letter_of here;
          power = ek ∙ ap power_of here;
          left = cursor_pass p v c l;
          right = subst (λ (t : ℕ). Cursor q (j + 1) (suc t)) same (cursor_pass q w d m);
        }

  -- ---- between two steps

  -- before the first step
  pub merging_none : Merging M p q 0 0 0 (replicate capacity 0) (replicate capacity 0) 0
  unfolding record_of support padded total
  merging_none = record { bound = 0; left = cursor_none p; right = cursor_none q; held = refl; powered = refl }

  -- the places are within the counts
  pub merging_within : {i j count power : ℕ} {sites letters : List ℕ} → Merging M p q i j count sites letters power → i + j ≤ capacity + capacity
  merging_within g = omega (arith, g.left.within, g.right.within, (valid_shape p v).count_most, (valid_shape q w).count_most)

  -- no letters from the bound on, once no place is left, nor from the reach on
  met_end : {i j count power : ℕ} {sites letters : List ℕ} (g : Merging M p q i j count sites letters power) → p.count + q.count ≤ i + j
      → (s : ℕ) → g.bound ≤ s → met M p q s ≡ 0
  met_end g h s l =
      let a = g.left.within in
      let b = g.right.within in
      met_none s (cursor_end p v g.left (omega arith) s l) (cursor_end q w g.right (omega arith) s l)

  met_beyond : (s : ℕ) → reach_of p q ≤ s → met M p q s ≡ 0
  met_beyond s l =
      met_none s
      (letter-beyond p v s (omega (arith, le-max_left (reach p) (reach q))))
      (letter-beyond q w s (omega (arith, le-max_right (reach p) (reach q))))

  -- after the last step
  pub merging_items : {i j count power : ℕ} {sites letters : List ℕ} → Merging M p q i j count sites letters power → p.count + q.count ≤ i + j
      → record { count = count; sites = sites; letters = letters } ≡ record_of (λ s. letter_of (met M p q s)) (reach_of p q)
  merging_items g h =
      g.held
      ∙ record_any (λ s. letter_of (met M p q s)) g.bound (reach_of p q)
      (λ s l. ap letter_of (met_end g h s l))
      (λ s l. ap letter_of (met_beyond s l))

  pub merging_power : {i j count power : ℕ} {sites letters : List ℕ} → Merging M p q i j count sites letters power → p.count + q.count ≤ i + j
      → power ≡ total (λ s. power_of (met M p q s)) (reach_of p q) % 4
  merging_power g h =
      g.powered
      ∙ ap (λ (n : ℕ). n % 4)
      (total_any (λ s. power_of (met M p q s)) g.bound (reach_of p q)
      (λ s l. ap power_of (met_end g h s l))
      (λ s l. ap power_of (met_beyond s l)))

-- ---- one step more

module _ {M : Letters} {p q : Items} {i j count power : ℕ} {sites letters : List ℕ} (g : Merging M p q i j count sites letters power)
    {s l k i' j' : ℕ} (t : Stepped M p q g.bound s l k i' j') where
  -- a letter more has a place
  room : count < capacity
  room =
      subst (λ (o : Items). o.count < capacity) (sym g.held)
      (push_fits (λ u. letter_of (met M p q u)) g.bound s t.from t.most)

  -- the power after the step
  power_after : (power + k) % 4 ≡ total (λ u. power_of (met M p q u)) (suc s) % 4
  power_after =
      let sum = total_site (λ u. power_of (met M p q u)) g.bound s t.from (λ u a b. ap power_of (t.gap u a b)) in
      omega (arith, sum, g.powered, t.power)

  -- a step whose letter is written, and one whose letter is the identity
  written : 0 < l → {power' : ℕ} → power' ≡ (power + k) % 4
      → Merging M p q i' j' (count + 1) (set sites count s) (set letters count l) power'
  written h e =
      let f : ℕ → ℕ = λ u. letter_of (met M p q u) in
      record {
        bound = suc s;
        left = t.left;
        right = t.right;
        held =
            ap₂ (λ (o : Items) (x : ℕ). pushed o s x) g.held t.letter
            ∙ push_record f g.bound s t.from t.most (λ u a b. ap letter_of (t.gap u a b)) (subst (λ (x : ℕ). 0 < x) t.letter h);
        powered = e ∙ power_after;
      }

  skipped : l ≤ 0 → Merging M p q i' j' count sites letters ((power + k) % 4)
  skipped h =
      let f : ℕ → ℕ = λ u. letter_of (met M p q u) in
      record {
        bound = suc s;
        left = t.left;
        right = t.right;
        held = g.held ∙ skip_record f g.bound s t.from (λ u a b. ap letter_of (t.gap u a b)) (omega (arith, t.letter));
        powered = power_after;
      }

-- ---- one turn of the loop

-- what is known once both next sites, a and b, are read
pub record Turn (M : Letters) (p q : Items) (i j count : ℕ) (sites letters : List ℕ) (power a b : ℕ) : Type 0 where
  pub closed : Closed M
  pub left_valid : valid p ≡ true
  pub right_valid : valid q ≡ true
  pub known : Merging M p q i j count sites letters power
  pub left_next : a ≡ next p i
  pub right_next_lem : b ≡ next q j
  pub unread : i + j < p.count + q.count

module _ {M : Letters} {p q : Items} {i j count : ℕ} {sites letters : List ℕ} {power a b : ℕ}
    (t : Turn M p q i j count sites letters power a b) where
  -- the lower of the two sites, with its letter
  to_left : a < b → Stepped M p q t.known.bound (at p.sites i) (at p.letters i) 0 (i + 1) j
  to_left h = stepped_left M t.closed p q t.left_valid t.right_valid t.known.left t.known.right t.left_next t.right_next_lem t.unread h

  to_right : b < a → Stepped M p q t.known.bound (at q.sites j) (at q.letters j) 0 i (j + 1)
  to_right h = stepped_right M t.closed p q t.left_valid t.right_valid t.known.left t.known.right t.left_next t.right_next_lem t.unread h

  -- or the one site of both, with the letter l and the power k of their product
  to_both : b ≤ a → a ≤ b → {l k : ℕ} → l ≡ letter_of (times M (at p.letters i) (at q.letters j))
      → k ≡ power_of (times M (at p.letters i) (at q.letters j))
      → Stepped M p q t.known.bound (at p.sites i) l k (i + 1) (j + 1)
  to_both h h' el ek =
      stepped_shared M t.closed p q t.left_valid t.right_valid t.known.left t.known.right t.left_next t.right_next_lem t.unread h h' el ek

  -- a letter more has a place
  pub merging_room : count < capacity
  merging_room =
      elim (dec_lt a b) [
        | yes h ↦ room t.known (to_left h)
        | no h ↦ elim (dec_lt b a) [ yes h' ↦ room t.known (to_right h') | no h' ↦ room t.known (to_both (omega arith) (omega arith) refl refl) ]
      ]

  -- the place of a site that is not the higher one, that it is one of the arrays, and its letter's code
  left : a ≤ b → i < p.count
  left h = left_there p q t.left_valid t.right_valid i j t.left_next t.right_next_lem t.unread h

  right : b ≤ a → j < q.count
  right h = right_there p q t.left_valid t.right_valid i j t.left_next t.right_next_lem t.unread h

  pub left_place : a ≤ b → i < capacity
  left_place h = place_fits p i t.left_valid (left h)

  pub right_place : b ≤ a → j < capacity
  right_place h = place_fits q j t.right_valid (right h)

  pub left_code : a ≤ b → at p.letters i < 4
  left_code h = omega (arith, (valid-at p t.left_valid i (left h)).letter_most)

  pub right_code : b ≤ a → at q.letters j < 4
  right_code h = omega (arith, (valid-at q t.right_valid j (right h)).letter_most)

  -- p's next site is the lower one
  pub merging_left : a < b → Merging M p q (i + 1) j (count + 1) (set sites count (at p.sites i)) (set letters count (at p.letters i)) power
  merging_left h =
      let l = (valid-at p t.left_valid i (left (omega arith))).letter_there in
      written t.known (to_left h) (omega arith) (omega (arith, t.known.powered))

  -- q's is
  pub merging_right : b < a → Merging M p q i (j + 1) (count + 1) (set sites count (at q.sites j)) (set letters count (at q.letters j)) power
  merging_right h =
      let l = (valid-at q t.right_valid j (right (omega arith))).letter_there in
      written t.known (to_right h) (omega arith) (omega (arith, t.known.powered))

  -- both are the same
  module _ (h : b ≤ a) (h' : a ≤ b) {l k : ℕ} (el : l ≡ letter_of (times M (at p.letters i) (at q.letters j)))
      (ek : k ≡ power_of (times M (at p.letters i) (at q.letters j))) where
    -- both powers are below 4
    pub merging_powers : power + k < 8
    merging_powers =
        let x = to_both h h' el ek in
        omega (arith, t.known.powered, x.power, met_lt M t.closed p q t.left_valid t.right_valid (at p.sites i))

    -- their product is a letter, or the identity
    pub merging_shared : 0 < l → Merging M p q (i + 1) (j + 1) (count + 1) (set sites count (at p.sites i)) (set letters count l) ((power + k) % 4)
    merging_shared z = written t.known (to_both h h' el ek) z refl

    pub merging_free : l ≤ 0 → Merging M p q (i + 1) (j + 1) count sites letters ((power + k) % 4)
    merging_free z = skipped t.known (to_both h h' el ek) z
