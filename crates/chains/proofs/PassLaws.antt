-- A loop that puts changed terms into a set, one after the other, each coefficient added to zero: the set of the first i terms without their
-- zeros, and what is left to judge. Terms that keep their keys go on having different ones, so that this is what adding them to nothing gives.
-- Assumes nothing.
use Prim.Native.Nat.{ℕ, ◌+◌, ◌≤◌, ◌<◌}
use native.Mathlib.Numerals.{add-one}
use native.Mathlib.Omega.{arith}
use mathlib.Core.Path.{◌≡◌, refl, sym, ap, ◌∙◌}
use mathlib.Core.Bool.{Bool, true, false, not, ◌||◌, ◌&&◌, cond}
use mathlib.Core.List.{List, [], ◌∷◌, ◌++◌, map, append-nil}
use lib.ListN.{length, take, drop, get_or, set, length-map, length-append, drop_of_length-le}
use lib.Seq.{length-take-le, drop-cons, take_all}
use Rattle.std.specs.Prelude.{Result, Ok, Err}
use Rattle.std.specs.Result.{IsErrAnd}
use Rattle.refusal.specs.Refusals.{Said, gives, refuses, done, number, site_of}
use Rattle.refusal.specs.declared.Refusal.{Refusal}
use Rattle.complex.specs.Complex.{sum_of, is_zero, in_range}
use Rattle.complex.specs.Coefficients.{zero_complex}
use Rattle.complex.specs.declared.Complex.{Complex}
use Rattle.items.specs.Record.{valid}
use Rattle.items.specs.declared.Items.{Items}
use Rattle.terms.specs.Keyed.{padded, has, each}
use Rattle.terms.specs.Kind.{Terms}
use Rattle.terms.specs.Setting.{most_terms, keyed, add_all}
use Rattle.terms.specs.Entries as entries
use Rattle.terms.proofs.AnswerLaws.{not_both, ended_out, ended_in}
use Rattle.terms.proofs.ClosingLaws.{padded_snoc}
use Rattle.terms.proofs.KeyedLaws.{map_more, by_test, All, all_head, all_tail, all_map, all_each, each_cons, each_head, each_tail}
use Rattle.terms.proofs.SettingLaws.{different}
use Rattle.terms.proofs.FilledLaws.{filled-made, filled-count, filled-places, own_from, held-from}
use Rattle.terms.proofs.StepLaws.{kept, kept_append, kept_length, kept_zero, kept_other, different-added}
use Rattle.terms.proofs.ValidSetLaws as laws
use Rattle.term_sets.specs.Complexes.{Term, TermSet, complex_terms, term_of, blank, held_by, filled, valid_set}
use Rattle.term_sets.proofs.SetLaws.{term_sets}
use Rattle.term_sets.proofs.ValidLaws.{valid_term_sets, valid-products}
use Rattle.chains.specs.ChainAnswers.{told, all_in_range, ended, keep_term}

-- ---- terms that keep their keys

-- terms of one kind made of those of another with the same keys
module _ {N N' : Type 0} (S : Terms Items N) (S' : Terms Items N') (alike : (p q : Items) → S'.same p q ≡ S.same p q) (f : S.Term → S'.Term) where
  -- f keeps the keys of these terms
  abbrev pub Keeps : List S.Term → Type 0
  Keeps l = All (λ x. S'.key (f x) ≡ S.key x) l

  has_mapped : (k : Items) (l : List S.Term) → Keeps l → has (keyed S' k) (map f l) ≡ has (keyed S k) l
  unfolding has
  has_mapped k [] h = refl
  has_mapped k (x ∷ l) h =
      let first = ap (λ (p : Items). S'.same p k) (all_head _ x l h) ∙ alike (S.key x) k in
      λ j. first j || has_mapped k l (all_tail _ x l h) j

  -- keys that differ go on differing
  pub different_mapped : (l : List S.Term) → Keeps l → each (different S) l ≡ true → each (different S') (map f l) ≡ true
  unfolding each
  different_mapped [] h e = refl
  different_mapped (x ∷ l) h e =
      each_cons (different S') (f x) (map f l)
      (ap (λ (k : Items). not (has (keyed S' k) (map f l))) (all_head _ x l h) ∙ ap not (has_mapped (S.key x) l (all_tail _ x l h)) ∙ each_head (different S) x l e)
      (different_mapped l (all_tail _ x l h) (each_tail (different S) x l e))

-- ---- one term more

-- a set with a term in its first free place
pub filled_more : (s : TermSet) (new : Term) → s.count < most_terms → s ≡ filled (held_by s)
    → record { count = s.count + 1; terms = set s.terms s.count new } ≡ filled (held_by s ++ new ∷ [])
filled_more s new room own =
    let m = held_by s in
    let c : s.count ≡ length m = ap (λ (x : TermSet). x.count) own ∙ filled-count term_sets m in
    let p : s.terms ≡ padded most_terms blank m = ap (λ (x : TermSet). x.terms) own ∙ filled-places term_sets m in
    filled-made term_sets _ _ (m ++ new ∷ [])
    (ap (λ (k : ℕ). k + 1) c ∙ sym (length-append m (new ∷ [])))
    ((λ j. set (p j) (c j) new) ∙ padded_snoc most_terms blank m new (omega (arith, room, c)))

-- what a step answers, by whether the coefficient is zero and whether it is in range
taken_other : {A : Type 0} (s t after : A) (r : Bool) → ◌≡◌ {A = Said Unit × A} (done, after) (cond (not r) (refuses 5 [], s) (done, t)) → (r ≡ true) × (after ≡ t)
taken_other {A} s t after true e = (refl, ap (λ (y : Said Unit × A). y.1) e)
taken_other {A} s t after false e = absurd (not_both tt 5 [] (ap (λ (y : Said Unit × A). y.0) e))

not_taken : {A : Type 0} (s t after : A) (z r : Bool) {n : ℕ} {l : List ℕ} → ◌≡◌ {A = Said Unit × A} (refuses n l, after) (cond z (done, s) (cond (not r) (refuses 5 [], s) (done, t)))
    → (z ≡ false) × (r ≡ false) × ◌≡◌ {A = Said Unit} (refuses n l) (refuses 5 [])
not_taken {A} s t after true r {n} {l} e = absurd (not_both tt n l (sym (ap (λ (y : Said Unit × A). y.0) e)))
not_taken {A} s t after false true {n} {l} e = absurd (not_both tt n l (sym (ap (λ (y : Said Unit × A). y.0) e)))
not_taken {A} s t after false false e = (refl, refl, ap (λ (y : Said Unit × A). y.0) e)

module _ (k : Items) (a : Complex) (s after : TermSet) where
  step_zero : is_zero (sum_of zero_complex a) ≡ true → (done, after) ≡ keep_term k a s → after ≡ s
  unfolding keep_term
  step_zero z e = ap (λ (y : Said Unit × TermSet). y.1) (rw z at e)

  step_other : is_zero (sum_of zero_complex a) ≡ false → (done, after) ≡ keep_term k a s
      → (in_range (sum_of zero_complex a) ≡ true) × (after ≡ filled (held_by s ++ term_of k (sum_of zero_complex a) ∷ []))
  unfolding keep_term
  step_other z e = taken_other s _ after (in_range (sum_of zero_complex a)) (rw z at e)

  step_refused : {n : ℕ} {l : List ℕ} → (refuses n l, after) ≡ keep_term k a s
      → (is_zero (sum_of zero_complex a) ≡ false) × (in_range (sum_of zero_complex a) ≡ false) × ◌≡◌ {A = Said Unit} (refuses n l) (refuses 5 [])
  unfolding keep_term
  step_refused e = not_taken s _ after (is_zero (sum_of zero_complex a)) (in_range (sum_of zero_complex a)) e

-- ---- the first of some terms

-- what is left to judge, where the first one is zero, and where it is not
left_zero : (k : Items) (a : Complex) (l : List Term) → is_zero (sum_of zero_complex a) ≡ true
    → all_in_range (kept complex_terms (term_of k a ∷ l)) ≡ all_in_range (kept complex_terms l)
unfolding kept
left_zero k a l z = rw z

left_other : (k : Items) (a : Complex) (l : List Term) → is_zero (sum_of zero_complex a) ≡ false
    → all_in_range (kept complex_terms (term_of k a ∷ l)) ≡ (in_range (sum_of zero_complex a) && all_in_range (kept complex_terms l))
unfolding kept entries.all_in_range each
left_other k a l z = rw z

left_none : all_in_range (kept complex_terms []) ≡ true
unfolding kept entries.all_in_range each
left_none = refl

-- of the terms that f makes of xs those before i are kept, and those from i on are left to judge
pub record Keeping (f : Term → Term) (xs : List Term) (i : ℕ) (out : TermSet) : Type 0 where
  pub few : length xs ≤ most_terms
  pub differ : each (different complex_terms) (map f xs) ≡ true
  pub is : out ≡ filled (kept complex_terms (map f (take i xs)))
  pub judged : all_in_range (kept complex_terms (map f xs)) ≡ all_in_range (kept complex_terms (map f (drop i xs)))

pub keeping_none : (f : Term → Term) (xs : List Term) (out : TermSet) → length xs ≤ most_terms → each (different complex_terms) (map f xs) ≡ true → out ≡ filled [] → Keeping f xs 0 out
unfolding kept
keeping_none f xs out few differ e = record { few = few; differ = differ; is = e; judged = refl }

module _ {f : Term → Term} {xs : List Term} {i : ℕ} {out : TermSet} (g : Keeping f xs i out) where
  abbrev before : List Term
  before = kept complex_terms (map f (take i xs))

  pub keeping_own : out ≡ filled (held_by out)
  keeping_own = own_from term_sets out before g.is

  -- terms with different keys, added to nothing
  added_all : add_all complex_terms (map gives (map f xs)) [] ≡ gives (kept complex_terms (map f xs))
  added_all = let m = length-map xs f in different-added complex_terms (valid_term_sets true).alike (map f xs) g.differ (omega (arith, g.few))

  module _ (h : i < length xs) where
    -- fewer terms than places
    pub keeping_room : out.count < most_terms
    keeping_room =
        let k = kept_length complex_terms (map f (take i xs)) in
        let m = length-map (take i xs) f in
        let l = length-take-le i xs (omega arith) in
        let c : out.count ≡ length before = ap (λ (s : TermSet). s.count) g.is ∙ filled-count term_sets before in
        omega (arith, g.few)

    -- the term of the place i is that of k and a
    module _ (d : Term) (k : Items) (a : Complex) (e : term_of k a ≡ f (get_or xs i d)) where
      next : kept complex_terms (map f (take (i + 1) xs)) ≡ before ++ kept complex_terms (term_of k a ∷ [])
      next =
          ap (kept complex_terms) (map_more f xs i d h ∙ ap (λ (t : Term). map f (take i xs) ++ t ∷ []) (sym e))
          ∙ kept_append complex_terms (map f (take i xs)) (term_of k a ∷ [])

      later : all_in_range (kept complex_terms (map f xs)) ≡ all_in_range (kept complex_terms (term_of k a ∷ map f (drop (i + 1) xs)))
      later =
          g.judged
          ∙ ap (λ (l : List Term). all_in_range (kept complex_terms (map f l))) (drop-cons xs i d h)
          ∙ (λ j. all_in_range (kept complex_terms (sym e j ∷ map f (drop (sym (add-one i) j) xs))))

      -- it is taken: a zero is not held, and another coefficient is, after the others
      pub keeping_more : {after : TermSet} → (done, after) ≡ keep_term k a out → Keeping f xs (i + 1) after
      keeping_more {after} s =
          by_test (is_zero (sum_of zero_complex a))
          (λ z.
          record {
            few = g.few;
            differ = g.differ;
            is = step_zero k a out after z s ∙ g.is ∙ ap filled (sym (next ∙ ap (λ (r : List Term). before ++ r) (kept_zero complex_terms (term_of k a) z) ∙ append-nil before));
            judged = later ∙ left_zero k a (map f (drop (i + 1) xs)) z;
          })
          (λ z.
          let w = step_other k a out after z s in
          record {
            few = g.few;
            differ = g.differ;
            is = w.1
                ∙ ap (λ (l : List Term). filled (l ++ term_of k (sum_of zero_complex a) ∷ [])) (held-from term_sets out before g.is)
                ∙ ap filled (sym (next ∙ ap (λ (r : List Term). before ++ r) (kept_other complex_terms (term_of k a) z)));
            judged = later ∙ left_other k a (map f (drop (i + 1) xs)) z ∙ ap (λ (b : Bool). b && all_in_range (kept complex_terms (map f (drop (i + 1) xs)))) w.0;
          })

      -- it is refused, which the chain is then too
      pub keeping_refused : {after : TermSet} (back : TermSet) (r : Result TermSet Refusal) (why : Refusal) → IsErrAnd r (λ w. w ≡ why) → (refuses (number why) (site_of why), after) ≡ keep_term k a out
          → told back r ≡ ended back (add_all complex_terms (map gives (map f xs)) [])
      keeping_refused {after} back (Ok x) why q s = absurd q
      keeping_refused {after} back (Err w) why q s =
          let p = step_refused k a out after s in
          ap (λ (v : Refusal). told back (Err v)) q
          ∙ ap (λ (o : Said Unit). (o, back)) p.2
          ∙ ended_out complex_terms in_range filled back added_all (later ∙ left_other k a (map f (drop (i + 1) xs)) p.0 ∙ ap (λ (b : Bool). b && all_in_range (kept complex_terms (map f (drop (i + 1) xs)))) p.1)

  -- no term is left
  pub keeping_done : (back : TermSet) → length xs ≤ i → (done, out) ≡ ended back (add_all complex_terms (map gives (map f xs)) [])
  keeping_done back h =
      ended_in complex_terms in_range filled back added_all (g.is ∙ ap (λ (l : List Term). filled (kept complex_terms (map f l))) (take_all i xs h))
      (g.judged ∙ ap (λ (l : List Term). all_in_range (kept complex_terms (map f l))) (drop_of_length-le xs h) ∙ left_none)

-- the terms of a valid set, where f keeps valid keys
pub keeping_valid : (f : Term → Term) → ((x : Term) → valid x.key ≡ true → (f x).key ≡ x.key) → (zeros : Bool) (s : TermSet) (xs : List Term) (out : TermSet)
    → valid_set zeros s ≡ true → xs ≡ held_by s → out ≡ filled [] → Keeping f xs 0 out
keeping_valid f keeps zeros s xs out v e new =
    let once =
    different_mapped complex_terms complex_terms (λ p q. refl) f (held_by s)
    (all_map _ _ keeps (held_by s) (all_each (λ t. valid t.key) (held_by s) (valid-products zeros s v)))
    (laws.valid-different (valid_term_sets zeros) s v) in
    keeping_none f xs out (rw e (laws.valid-few (valid_term_sets zeros) s v)) (ap (λ (l : List Term). each (different complex_terms) (map f l)) e ∙ once) new
