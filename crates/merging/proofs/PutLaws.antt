-- A letter put on a site of a record: put in at the site's place, taken out of it, or put for the one there.
-- Assumes nothing.
use mathlib.Core.Path.{◌≡◌, refl, sym, ap, ◌∙◌, subst}
use mathlib.Core.List.{List}
use mathlib.Core.Bool.{true}
use Prim.Native.Nat.{ℕ, suc, ◌+◌, ◌-◌, ◌≤◌, ◌<◌, max}
use native.Mathlib.Nat.{le-max_left, le-max_right, max-eq_left}
use native.Mathlib.Decide.{ℕ_discrete, dec_lt}
use native.Mathlib.Omega.{arith}
use lib.ListN.{set, length-set}
use lib.Seq.{get_or-set_same, get_or-set_other}
use Rattle.letters.specs.Answers.{highest_letter}
use Rattle.items.specs.Lists.{at}
use Rattle.items.specs.Record.{highest_site, valid, letter_at, reach, record_of, update}
use Rattle.items.specs.declared.Items.{Items}
use Rattle.items.proofs.RecordLaws.{valid_shape, valid-at, valid_past, ascending}
use Rattle.items.proofs.RecordLaws.{letter_here, letter_code, letter_occupied, letter-beyond, site_below-reach}
use Rattle.items.proofs.Canonical.{record_ext, canonical_span}
use Rattle.merging.specs.Places.{place_of}
use Rattle.merging.proofs.PlaceLaws.{place_cursor, free_room}
use Rattle.merging.proofs.HoldLaws.{update_here, update_other, update_code, update_free, cast, holds_record}
use Rattle.merging.proofs.ShiftLaws.{Ends, Opened, opened_high, Shut}

module _ (p : Items) (v : valid p ≡ true) where
  -- both arrays end with zeros
  pub sites_end : Ends p.sites p.count
  sites_end = record { long = (valid_shape p v).sites_long; zeros = λ k a b. (valid_past p v k a b).0 }

  pub letters_end : Ends p.letters p.count
  letters_end = record { long = (valid_shape p v).letters_long; zeros = λ k a b. (valid_past p v k a b).1 }

  -- two places have two sites
  apart : (j k : ℕ) → j < p.count → k < p.count → (j ≡ k → ⊥) → at p.sites j ≡ at p.sites k → ⊥
  apart j k a b n e =
      elim (dec_lt j k) [
        | yes l ↦ omega (arith, ascending p v j k l b)
        | no l ↦ omega (arith, ascending p v k j (omega arith) a)
      ]

  -- ---- a letter put in

  module _ {s x n : ℕ} (low : s ≤ highest_site) (some : 0 < x) (known : x ≤ highest_letter) (e : n ≡ place_of p s) (free : letter_at p s ≡ 0) where
    -- no place has the site
    other : (j : ℕ) → j < p.count → at p.sites j ≡ s → ⊥
    other j l q = omega (arith, (valid-at p v j l).letter_there, letter_here p v j l, ap (letter_at p) q)

    -- so the next place has a higher one
    above : n < p.count → s < at p.sites n
    above l =
        let a = (place_cursor p v e).after n (omega arith) l in
        elim (dec_lt s (at p.sites n)) [ yes q ↦ q | no q ↦ absurd (other n l (omega arith)) ]

    module _ {sites letters : List ℕ} (os : Opened p.sites n s sites) (ol : Opened p.letters n x letters) where
      -- what holds of each of p's places and of the new one holds of each place
      each : (Q : ℕ → ℕ → Type 0) → ((j : ℕ) → j < p.count → Q (at p.sites j) (at p.letters j)) → Q s x
          → (k : ℕ) → k < p.count + 1 → Q (at sites k) (at letters k)
      each Q old new k l =
          let room = free_room p v s low free in
          elim (dec_lt k n) [
            | yes a ↦ cast Q (os.low k a) (ol.low k a) (old k (omega (arith, (place_cursor p v e).within)))
            | no a ↦
                elim (ℕ_discrete k n) [
                  | yes b ↦ cast Q (ap (at sites) b ∙ os.here) (ap (at letters) b ∙ ol.here) new
                  | no b ↦
                      cast Q (opened_high os k (omega arith) (omega arith)) (opened_high ol k (omega arith) (omega arith)) (old (k - 1) (omega arith))
                ]
          ]

      -- the sites ascend
      up : (k : ℕ) → suc k < p.count + 1 → at sites k < at sites (suc k)
      up k l =
          let room = free_room p v s low free in
          let c = place_cursor p v e in
          elim (dec_lt (suc k) n) [
            | yes a ↦ omega (arith, os.low k (omega arith), os.low (suc k) a, ascending p v k (suc k) (omega arith) (omega (arith, c.within)))
            | no a ↦
                elim (ℕ_discrete (suc k) n) [
                  | yes b ↦ omega (arith, os.low k (omega arith), ap (at sites) b, os.here, c.before k (omega arith))
                  | no b ↦
                      elim (ℕ_discrete k n) [
                        | yes d ↦ omega (arith, ap (at sites) d, os.here, os.high k (omega arith) (omega arith), ap (at p.sites) d, above (omega arith))
                        | no d ↦
                            (let last = opened_high os k (omega arith) (omega arith) in
                            omega (arith, os.high k (omega arith) (omega arith), ascending p v (k - 1) k (omega arith) (omega arith)))
                      ]
                ]
          ]

      -- each letter has a place
      place_of-letter : (t : ℕ) → 0 < update (letter_at p) s x t → (k : ℕ) × (k < p.count + 1) × (at sites k ≡ t)
      place_of-letter t h =
          let within = (place_cursor p v e).within in
          elim (ℕ_discrete t s) [
            | yes a ↦ (n, omega arith, os.here ∙ sym a)
            | no a ↦
                (let r = letter_occupied p t (subst (λ (y : ℕ). 0 < y) (update_other (letter_at p) s x t a) h) in
                let l = r.1 in
                elim (dec_lt r.0 n) [
                  | yes b ↦ (r.0, omega arith, os.low r.0 b ∙ r.2)
                  | no b ↦ (suc r.0, omega arith, os.high r.0 (omega arith) (omega (arith, free_room p v s low free)) ∙ r.2)
                ])
          ]

      -- the record with the letter
      pub insert_record : record { count = p.count + 1; sites = sites; letters = letters }
          ≡ record_of (update (letter_at p) s x) (max (reach p) (suc s))
      insert_record =
          let room = free_room p v s low free in
          let f = letter_at p in
          holds_record
          record {
            sites_long = os.long;
            letters_long = ol.long;
            count_most = omega arith;
            site_most = each (λ y z. y ≤ highest_site) (λ j l. (valid-at p v j l).site_most) low;
            letter =
                each (λ y z. z ≡ update f s x y)
                (λ j l. sym (update_other f s x (at p.sites j) (other j l) ∙ letter_here p v j l))
                (sym (update_here f s x s refl));
            there = each (λ y z. 0 < z) (λ j l. (valid-at p v j l).letter_there) some;
            ascends = up;
            past = λ k l m. (
              opened_high os k (omega (arith, (place_cursor p v e).within)) m ∙ sites_end.zeros (k - 1) (omega arith) (omega arith),
              opened_high ol k (omega (arith, (place_cursor p v e).within)) m ∙ letters_end.zeros (k - 1) (omega arith) (omega arith),
            );
            found = place_of-letter;
          }
          (update_code f s x (letter_code p v) known)
          (max (reach p) (suc s))
          (λ t l. update_free f s x t
          (λ q. absurd (omega (arith, le-max_right (reach p) (suc s))))
          (letter-beyond p v t (omega (arith, le-max_left (reach p) (suc s)))))

  -- ---- a place taken out

  module _ {n last : ℕ} (there : n < p.count) (e : suc last ≡ p.count) {sites letters : List ℕ}
      (ss : Shut p.sites p.count n sites) (sl : Shut p.letters p.count n letters) where
    -- what holds of each of p's other places holds of each place
    kept : (Q : ℕ → ℕ → Type 0) → ((j : ℕ) → j < p.count → (j ≡ n → ⊥) → Q (at p.sites j) (at p.letters j))
        → (k : ℕ) → k < last → Q (at sites k) (at letters k)
    kept Q old k l =
        elim (dec_lt k n) [
          | yes a ↦ cast Q (ss.low k a) (sl.low k a) (old k (omega arith) (λ q. omega arith))
          | no a ↦ cast Q (ss.high k (omega arith) (omega arith)) (sl.high k (omega arith) (omega arith)) (old (suc k) (omega arith) (λ q. omega arith))
        ]

    -- the sites ascend
    rise : (k : ℕ) → suc k < last → at sites k < at sites (suc k)
    rise k l =
        elim (dec_lt (suc k) n) [
          | yes a ↦ omega (arith, ss.low k (omega arith), ss.low (suc k) a, ascending p v k (suc k) (omega arith) (omega arith))
          | no a ↦
              elim (dec_lt k n) [
                | yes b ↦ omega (arith, ss.low k b, ss.high (suc k) (omega arith) (omega arith), ascending p v k (suc (suc k)) (omega arith) (omega arith))
                | no b ↦
                    (let next = ss.high (suc k) (omega arith) (omega arith) in
                    omega (arith, ss.high k (omega arith) (omega arith), ascending p v (suc k) (suc (suc k)) (omega arith) (omega arith)))
              ]
        ]

    -- each letter has a place
    place_kept : (t : ℕ) → 0 < update (letter_at p) (at p.sites n) 0 t → (k : ℕ) × (k < last) × (at sites k ≡ t)
    place_kept t h =
        elim (ℕ_discrete t (at p.sites n)) [
          | yes a ↦ absurd (omega (arith, update_here (letter_at p) (at p.sites n) 0 t a))
          | no a ↦
              (let r = letter_occupied p t (subst (λ (y : ℕ). 0 < y) (update_other (letter_at p) (at p.sites n) 0 t a) h) in
              let l = r.1 in
              elim (dec_lt r.0 n) [
                | yes b ↦ (r.0, omega arith, ss.low r.0 b ∙ r.2)
                | no b ↦
                    elim (ℕ_discrete r.0 n) [
                      | yes d ↦ absurd (a (sym r.2 ∙ ap (at p.sites) d))
                      | no d ↦
                          (let i : suc (r.0 - 1) ≡ r.0 = omega arith in
                          (r.0 - 1, omega arith, ss.high (r.0 - 1) (omega arith) (omega arith) ∙ ap (at p.sites) i ∙ r.2))
                    ]
              ])
        ]

    -- the record without the letter
    pub remove_record : record { count = last; sites = sites; letters = letters } ≡ record_of (update (letter_at p) (at p.sites n) 0) (reach p)
    remove_record =
        let f = letter_at p in
        let s = at p.sites n in
        holds_record
        record {
          sites_long = ss.long;
          letters_long = sl.long;
          count_most = omega (arith, (valid_shape p v).count_most);
          site_most = kept (λ y z. y ≤ highest_site) (λ j l q. (valid-at p v j l).site_most);
          letter = kept (λ y z. z ≡ update f s 0 y) (λ j l q. sym (update_other f s 0 (at p.sites j) (apart j n l there q) ∙ letter_here p v j l));
          there = kept (λ y z. 0 < z) (λ j l q. (valid-at p v j l).letter_there);
          ascends = rise;
          past = λ k l m. (ss.zeros k (omega arith) m, sl.zeros k (omega arith) m);
          found = place_kept;
        }
        (update_code f s 0 (letter_code p v) (omega arith))
        (reach p)
        (λ t l. update_free f s 0 t (λ q. refl) (letter-beyond p v t l))

  -- ---- a letter put for another

  module _ {n x : ℕ} (there : n < p.count) (some : 0 < x) (known : x ≤ highest_letter) where
    -- what holds of each of p's other places and of the new letter at this one holds of each place
    set_each : (Q : ℕ → ℕ → Type 0) → ((j : ℕ) → j < p.count → (j ≡ n → ⊥) → Q (at p.sites j) (at p.letters j)) → Q (at p.sites n) x
        → (k : ℕ) → k < p.count → Q (at p.sites k) (at (set p.letters n x) k)
    set_each Q old new k l =
        let shape = valid_shape p v in
        elim (ℕ_discrete k n) [
          | yes a ↦
              cast Q (ap (at p.sites) a)
              (ap (at (set p.letters n x)) a ∙ get_or-set_same p.letters n x 0 (omega (arith, shape.letters_long, shape.count_most))) new
          | no a ↦ cast Q refl (get_or-set_other p.letters n k x 0 a) (old k l a)
        ]

    -- the record with the other letter
    pub replace_record : record { count = p.count; sites = p.sites; letters = set p.letters n x }
        ≡ record_of (update (letter_at p) (at p.sites n) x) (reach p)
    replace_record =
        let f = letter_at p in
        let s = at p.sites n in
        holds_record
        record {
          sites_long = (valid_shape p v).sites_long;
          letters_long = length-set p.letters n x ∙ (valid_shape p v).letters_long;
          count_most = (valid_shape p v).count_most;
          site_most = λ k l. (valid-at p v k l).site_most;
          letter =
              set_each (λ y z. z ≡ update f s x y)
              (λ j l q. sym (update_other f s x (at p.sites j) (apart j n l there q) ∙ letter_here p v j l))
              (sym (update_here f s x s refl));
          there = set_each (λ y z. 0 < z) (λ j l q. (valid-at p v j l).letter_there) some;
          ascends = λ k l. ascending p v k (suc k) (omega arith) l;
          past = λ k l m. (sites_end.zeros k l m, get_or-set_other p.letters n k x 0 (λ q. omega arith) ∙ letters_end.zeros k l m);
          found = λ t h. elim (ℕ_discrete t s) [
            | yes a ↦ (n, there, sym a)
            | no a ↦ letter_occupied p t (subst (λ (y : ℕ). 0 < y) (update_other f s x t a) h)
          ];
        }
        (update_code f s x (letter_code p v) known)
        (reach p)
        (λ t l. update_free f s x t (λ q. absurd (omega (arith, site_below-reach p v n there))) (letter-beyond p v t l))

  -- ---- on a site

  -- a letter on a site that is at a place, or the identity
  pub put_there : {s n : ℕ} (x : ℕ) → (n < p.count) × (at p.sites n ≡ s)
      → record_of (update (letter_at p) (at p.sites n) x) (reach p) ≡ record_of (update (letter_at p) s x) (max (reach p) (suc s))
  put_there {s} {n} x t =
      let m : max (reach p) (suc s) ≡ reach p = max-eq_left (omega (arith, site_below-reach p v n t.0, t.1)) in
      λ i. record_of (update (letter_at p) (t.1 i) x) (sym m i)

  pub put_identity : {s n : ℕ} (x : ℕ) → x ≤ 0 → (n < p.count) × (at p.sites n ≡ s)
      → record_of (update (letter_at p) (at p.sites n) 0) (reach p) ≡ record_of (update (letter_at p) s x) (max (reach p) (suc s))
  put_identity {s} x l t = put_there 0 t ∙ (let e : 0 ≡ x = omega arith in ap (λ (y : ℕ). record_of (update (letter_at p) s y) (max (reach p) (suc s))) e)

  -- the identity on a free site
  pub put_nothing : (s x : ℕ) → x ≤ 0 → letter_at p s ≡ 0 → p ≡ record_of (update (letter_at p) s x) (max (reach p) (suc s))
  put_nothing s x l z =
      let span = max (reach p) (suc s) in
      let e : x ≡ 0 = omega arith in
      sym (canonical_span p v span (le-max_left (reach p) (suc s)))
      ∙ record_ext (letter_at p) (update (letter_at p) s x) span (λ t m. elim (ℕ_discrete t s) [
        | yes q ↦ ap (letter_at p) q ∙ z ∙ sym (update_here (letter_at p) s x t q ∙ e)
        | no q ↦ sym (update_other (letter_at p) s x t q)
      ])
