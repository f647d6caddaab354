-- A loop that scales the terms of a set: the set of the first i terms scaled, and what is left to judge.
-- Assumes nothing.
use Prim.Native.Nat.{ℕ, ◌+◌, ◌≤◌, ◌<◌}
use native.Mathlib.Omega.{arith}
use mathlib.Core.Path.{◌≡◌, refl, sym, ap, ◌∙◌}
use mathlib.Core.Bool.{true, false}
use mathlib.Core.List.{List, [], ◌∷◌, ◌++◌, map}
use lib.ListN.{length, take, drop, get_or, set, length-map, length-append}
use lib.Seq.{length-take-le, take_all}
use Rattle.std.proofs.Math.ListN.{get_or-map}
use Rattle.refusal.specs.Refusals.{refuses, done}
use Rattle.complex.specs.Complex.{product_of, in_range}
use Rattle.complex.specs.declared.Complex.{Complex}
use Rattle.terms.specs.Keyed.{padded, each}
use Rattle.terms.specs.Setting.{most_terms}
use Rattle.terms.specs.Entries as entries
use Rattle.terms.specs.Chains.{scaled_terms}
use Rattle.terms.proofs.AnswerLaws.{ended_out, ended_in}
use Rattle.terms.proofs.ClosingLaws.{padded_snoc}
use Rattle.terms.proofs.FilledLaws.{filled-made, filled-count, filled-places}
use Rattle.terms.proofs.KeyedLaws.{each_passes, each_fails, each_end, map_more}
use Rattle.terms.proofs.ValidSetLaws as laws
use Rattle.term_sets.specs.Complexes.{Term, TermSet, complex_terms, term_of, blank, held_by, filled, valid_set}
use Rattle.term_sets.proofs.SetLaws.{term_sets}
use Rattle.term_sets.proofs.ValidLaws.{valid_term_sets}
use Rattle.chains.specs.ChainAnswers.{all_in_range, scale_set}

abbrev pub scaled_term : Complex → Term → Term
scaled_term a x = term_of x.key (product_of x.coefficient a)

-- the terms scaled
abbrev pub scaled : Complex → List Term → List Term
scaled a l = map (scaled_term a) l

pub record Scaling (a : Complex) (xs : List Term) (i : ℕ) (out : TermSet) : Type 0 where
  pub few : length xs ≤ most_terms
  pub is : out ≡ filled (scaled a (take i xs))
  pub judged : all_in_range (scaled a xs) ≡ each (λ t ts. in_range t.coefficient) (drop i (scaled a xs))

pub scaling_none : (a : Complex) (s : TermSet) (xs : List Term) (out : TermSet) → valid_set true s ≡ true → xs ≡ held_by s → out ≡ filled [] → Scaling a xs 0 out
unfolding entries.all_in_range
scaling_none a s xs out v held e = record { few = rw held (laws.valid-few (valid_term_sets true) s v); is = e; judged = refl }

module _ {a : Complex} {xs : List Term} {i : ℕ} {out : TermSet} (s : Scaling a xs i out) where
  module _ (h : i < length xs) where
    count_is : out.count ≡ length (scaled a (take i xs))
    count_is = ap (λ (x : TermSet). x.count) s.is ∙ filled-count term_sets (scaled a (take i xs))

    fewer : length (scaled a (take i xs)) < most_terms
    fewer = rw length-map (let l = length-take-le i xs (omega arith) in omega (arith, s.few))

    -- fewer terms than places
    pub scaling_room : out.count < most_terms
    scaling_room = omega (arith, count_is, fewer)

    module _ (d : Term) (b : Complex) (e : b ≡ product_of (get_or xs i d).coefficient a) where
      here : in_range b ≡ in_range (get_or (scaled a xs) i (scaled_term a d)).coefficient
      here = ap in_range (e ∙ sym (ap (λ (t : Term). t.coefficient) (get_or-map (scaled_term a) xs i d)))

      pub scaling_more : in_range b ≡ true → Scaling a xs (i + 1) (record { count = out.count + 1; terms = set out.terms out.count (term_of (get_or xs i d).key b) })
      scaling_more r =
          let m = scaled a (take i xs) in
          let new = term_of (get_or xs i d).key b in
          let n : i < length (scaled a xs) = rw length-map h in
          let places : out.terms ≡ padded most_terms blank m = ap (λ (x : TermSet). x.terms) s.is ∙ filled-places term_sets m in
          record {
            few = s.few;
            is = filled-made term_sets _ _ (m ++ new ∷ [])
                (ap (λ (k : ℕ). k + 1) count_is ∙ sym (length-append m (new ∷ [])))
                ((λ j. set (places j) (count_is j) new) ∙ padded_snoc most_terms blank m new fewer)
                ∙ ap filled (ap (λ (x : Complex). m ++ term_of (get_or xs i d).key x ∷ []) e ∙ sym (map_more (scaled_term a) xs i d h));
            judged = s.judged ∙ each_passes (λ t ts. in_range t.coefficient) (scaled a xs) i (scaled_term a d) n (sym here ∙ r);
          }

      pub scaling_out : in_range b ≡ false → all_in_range (scaled a xs) ≡ false
      scaling_out r =
          let n : i < length (scaled a xs) = rw length-map h in
          s.judged ∙ each_fails (λ t ts. in_range t.coefficient) (scaled a xs) i (scaled_term a d) n (sym here ∙ r)

  module _ (h : length xs ≤ i) where
    pub scaling_done : out ≡ filled (scaled a xs)
    scaling_done = s.is ∙ ap (λ (l : List Term). filled (scaled a l)) (take_all i xs h)

    pub scaling_fine : all_in_range (scaled a xs) ≡ true
    scaling_fine = s.judged ∙ each_end (λ t ts. in_range t.coefficient) (scaled a xs) i (rw length-map h)

-- the answer, where the set and the number pass the tests
module _ (a : Complex) (s : TermSet) {xs : List Term} (valid : valid_set true s ≡ true) (good : in_range a ≡ true) (held : xs ≡ held_by s) where
  pub scale_out : all_in_range (scaled a xs) ≡ false → (refuses 5 [], s) ≡ scale_set s a
  unfolding scale_set scaled_terms
  scale_out r = rw (valid, good, ← held) (ended_out complex_terms in_range filled s refl r)

  pub scale_in : {out : TermSet} → out ≡ filled (scaled a xs) → all_in_range (scaled a xs) ≡ true → (done, out) ≡ scale_set s a
  unfolding scale_set scaled_terms
  scale_in is r = rw (valid, good, ← held) (ended_in complex_terms in_range filled s refl is r)
