-- The answers of the entries on sets with complex coefficients: number 0 of its own kind lets every accepted answer pass, a chain of additions
-- leaves no zeros, and beside a refusal stands the first record given, or the empty set for a conversion.
-- Assumes nothing.
use Prim.Native.Nat.{ℕ}
use native.Mathlib.Omega.{arith}
use mathlib.Core.Path.{◌≡◌, refl, sym, ap, ◌∙◌, subst}
use mathlib.Core.Bool.{Bool, true, false, not, ◌||◌}
use mathlib.Core.List.{List, [], ◌∷◌, map}
use lib.ListN.{length-map}
use Rattle.refusal.specs.Refusals.{Said, gives, refuses, done}
use Rattle.complex.specs.Complex.{is_zero, in_range}
use Rattle.complex.specs.declared.Complex.{Complex}
use Rattle.letters.specs.Matrices.{Letters, letters_of}
use Rattle.letters.specs.Answers.{other}
use Rattle.letters.specs.declared.Kind.{Kind}
use Rattle.letters.proofs.TestLaws.{and_true, and_left}
use Rattle.items.specs.Record.{valid, same_items}
use Rattle.merging.specs.ProductAnswers.{multiply_answer}
use Rattle.phases.specs.Answers.{conjugate_answer, convert_answer}
use Rattle.items.specs.declared.Items.{Items}
use Rattle.products.proofs.ProductTheorems.{multiply-valid, conjugate-valid, convert-valid}
use Rattle.terms.specs.Keyed.{has}
use Rattle.terms.specs.Setting.{keyed, add_all}
use Rattle.terms.specs.Chains.{given, conjugate_terms, convert_terms, scaled_terms}
use Rattle.terms.specs.Entries as entries
use Rattle.terms.proofs.KeyedLaws.{All, all_each}
use Rattle.terms.proofs.SettingLaws.{different}
use Rattle.terms.proofs.EachLaws.{each_follows, all_results, all_lists, each_results}
use Rattle.terms.proofs.GoodLaws.{all_good}
use Rattle.terms.proofs.AnswerLaws.{Answered, answered_past, finally_answered, ended_answered}
use Rattle.terms.proofs.StepLaws.{giving_terms, times_terms, times-given}
use Rattle.terms.proofs.ValidSetLaws as laws
use Rattle.term_sets.specs.Complexes.{Term, TermSet, complex_terms, complex_products, held_by, filled, good_coefficient, valid_set}
use Rattle.term_writing.specs.WritingAnswers.{set_term, add_term}
use Rattle.chains.specs.ChainAnswers.{all_in_range, ended, product_steps, multiply_sets, conjugate_set, convert_set, scale_set, conjugates, conversions}
use Rattle.chains.proofs.ScaleLaws.{scaled_term}
use Rattle.chains.proofs.StepLaws.{multiply-done}
use Rattle.term_sets.proofs.ValidLaws.{valid_term_sets, valid-products}

-- ---- sets where zeros are allowed

-- a set that is valid where none is allowed is valid where they are
pub zeros_allowed : (s : TermSet) → valid_set false s ≡ true → valid_set true s ≡ true
zeros_allowed s e =
    let v = laws.valid-parts (valid_term_sets false) s e in
    let ranges = each_follows _ (λ t ts. good_coefficient true t.coefficient) (λ t ts h. and_true (and_left (in_range t.coefficient) (not (is_zero t.coefficient)) h) refl) (held_by s) (laws.valid-coefficients (valid_term_sets false) s e) in
    laws.valid_by (valid_term_sets true) s (record {
      whole = v.whole;
      few = v.few;
      good = all_good complex_terms valid (good_coefficient true) (held_by s) (valid-products false s e) ranges (laws.valid-different (valid_term_sets false) s e);
      past = v.past;
    })

-- and in either case
pub valid_either : (zeros : Bool) (s : TermSet) → valid_set false s ≡ true → valid_set zeros s ≡ true
valid_either true s e = zeros_allowed s e
valid_either false s e = e

-- ---- one term

module _ (zeros : Bool) (s : TermSet) (k : Items) (a : Complex) where
  set_answer_lem : Answered (λ x. valid_set zeros x ≡ true) s (set_term zeros s k a)
  unfolding set_term
  set_answer_lem = answered_past (valid_set zeros s) _ _ _ (λ v. answered_past (valid k) _ _ _ (λ w. laws.set_valid (valid_term_sets zeros) s k a v w (λ t. t.coefficient)))

  -- what an accepted setting leaves is valid
  pub set_valid : (o : List Complex) (x : TermSet) → set_term zeros s k a ≡ (gives o, x) → valid_set zeros x ≡ true
  set_valid = set_answer_lem.holds

  -- the set given stands beside a refusal
  pub set_refused : (n : ℕ) (l : List ℕ) → (set_term zeros s k a).0 ≡ refuses n l → (set_term zeros s k a).1 ≡ s
  set_refused = set_answer_lem.kept

  add_answer : Answered (λ x. valid_set zeros x ≡ true) s (add_term zeros s k a)
  unfolding add_term
  add_answer = answered_past (valid_set zeros s) _ _ _ (λ v. answered_past (valid k) _ _ _ (λ w. laws.add_valid (valid_term_sets zeros) s k a v w))

  -- what an accepted addition leaves is valid
  pub add_valid : (x : TermSet) → add_term zeros s k a ≡ (done, x) → valid_set zeros x ≡ true
  add_valid = add_answer.holds tt

  -- the set given stands beside a refusal
  pub add_refused : (n : ℕ) (l : List ℕ) → (add_term zeros s k a).0 ≡ refuses n l → (add_term zeros s k a).1 ≡ s
  add_refused = add_answer.kept

-- ---- chains of additions

-- a term's product is valid
abbrev pub HasValid : Term → Type 0
HasValid t = valid t.key ≡ true

-- the terms of a valid set
pub held_products : (zeros : Bool) (s : TermSet) → valid_set zeros s ≡ true → All HasValid (held_by s)
held_products zeros s v = all_each (λ t. valid t.key) (held_by s) (valid-products zeros s v)

-- terms with valid products, added to the empty set: what is held is valid and holds no zero, and s stands beside a refusal
pub chain_answer : (s : TermSet) (ts : List Term) → All HasValid ts → Answered (λ x. valid_set false x ≡ true) s (ended s (add_all complex_terms (map gives ts) []))
chain_answer s ts q =
    laws.chain_valid (valid_term_sets false) s (map gives ts) [] (giving_terms complex_terms HasValid ts q) (laws.sound_none (valid_term_sets false))

-- beside a refusal stands s, whatever is added
pub chain_keeps : (s : TermSet) (o : Said (List Term)) → Answered (λ x. Unit {0}) s (ended s o)
chain_keeps s o = ended_answered complex_terms in_range filled o (λ l e r. tt)

-- ---- multiplication

-- the product of two valid products
times-valid : (kind : Kind) (p q : Items) → valid p ≡ true → valid q ≡ true → valid (multiply_answer (letters_of kind) p q).1.1 ≡ true
unfolding multiply_answer
times-valid kind p q v w =
    let z = (multiply_answer (letters_of kind) p q).1 in
    multiply-valid kind p q z.0 z.1 (rw (v, w))

-- no product of valid ones is refused
times-said : (M : Letters) (p q : Items) → valid p ≡ true → valid q ≡ true → given (multiply_answer M p q) ≡ gives (multiply_answer M p q).1
times-said M p q v w = ap given (multiply-done M p q v w)

-- the products of the terms of two sets
times-products : (kind : Kind) (l r : List Term) → All HasValid l → All HasValid r → All HasValid (times_terms complex_terms complex_products (λ p q. (multiply_answer (letters_of kind) p q).1) l r)
unfolding times_terms
times-products kind l r hl hr =
    all_lists HasValid HasValid _ (λ x hx. all_results HasValid HasValid _ (λ y hy. times-valid kind x.key y.key hx hy) r hr) l hl

-- their chain
pub times-answer : (kind : Kind) (s : TermSet) (l r : List Term) → All HasValid l → All HasValid r
    → Answered (λ x. valid_set false x ≡ true) s (ended s (add_all complex_terms (product_steps (letters_of kind) l r) []))
times-answer kind s l r hl hr =
    let M = letters_of kind in
    let e = times-given complex_terms complex_products (λ p q. given (multiply_answer M p q)) (λ p q. (multiply_answer M p q).1) (λ p. valid p ≡ true) (times-said M) l r hl hr in
    subst (λ (xs : List (Said Term)). Answered (λ x. valid_set false x ≡ true) s (ended s (add_all complex_terms xs []))) (sym e)
    (chain_answer s (times_terms complex_terms complex_products (λ p q. (multiply_answer M p q).1) l r) (times-products kind l r hl hr))

module _ (M : Letters) (zeros : Bool) (s t : TermSet) where
  multiply_answer_lem : {P : TermSet → Type 0} → (valid_set zeros s ≡ true → valid_set zeros t ≡ true → Answered P s (ended s (add_all complex_terms (product_steps M (held_by s) (held_by t)) [])))
      → Answered P s (multiply_sets M zeros s t)
  unfolding multiply_sets
  multiply_answer_lem h = answered_past (valid_set zeros s) _ _ _ (λ v. answered_past (valid_set zeros t) _ _ _ (h v))

  -- the left set stands beside a refusal
  pub multiply_sets_refused : (n : ℕ) (l : List ℕ) → (multiply_sets M zeros s t).0 ≡ refuses n l → (multiply_sets M zeros s t).1 ≡ s
  multiply_sets_refused = (multiply_answer_lem (λ v w. chain_keeps s _)).kept

-- an accepted product of two sets is valid and holds no zero
pub multiply_sets-nonzero : (kind : Kind) (zeros : Bool) (s t x : TermSet) → multiply_sets (letters_of kind) zeros s t ≡ (done, x) → valid_set false x ≡ true
multiply_sets-nonzero kind zeros s t =
    (multiply_answer_lem (letters_of kind) zeros s t (λ v w. times-answer kind s (held_by s) (held_by t) (held_products zeros s v) (held_products zeros t w))).holds tt

-- so number 0 of its kind lets it pass
pub multiply_sets-valid : (kind : Kind) (zeros : Bool) (s t x : TermSet) → multiply_sets (letters_of kind) zeros s t ≡ (done, x) → valid_set zeros x ≡ true
multiply_sets-valid kind zeros s t x e = valid_either zeros x (multiply_sets-nonzero kind zeros s t x e)

-- ---- conjugation

-- the conjugate of a valid product
conjugated-valid : (kind : Kind) (p : Items) → valid p ≡ true → valid (conjugate_answer (letters_of kind) p).1.1 ≡ true
unfolding conjugate_answer
conjugated-valid kind p v =
    let z = (conjugate_answer (letters_of kind) p).1 in
    conjugate-valid kind p z.0 z.1 (rw v)

module _ (M : Letters) (zeros : Bool) (s : TermSet) where
  conjugate_answer_lem : {P : TermSet → Type 0} → (valid_set zeros s ≡ true → Answered P s (ended s (add_all complex_terms (map gives (conjugates M (held_by s))) []))) → Answered P s (conjugate_set M zeros s)
  unfolding conjugate_set
  conjugate_answer_lem h = answered_past (valid_set zeros s) _ _ _ h

  -- the set given stands beside a refusal
  pub conjugate_set_refused : (n : ℕ) (l : List ℕ) → (conjugate_set M zeros s).0 ≡ refuses n l → (conjugate_set M zeros s).1 ≡ s
  conjugate_set_refused = (conjugate_answer_lem (λ v. chain_keeps s _)).kept

-- an accepted conjugate is valid and holds no zero
pub conjugate_set-nonzero : (kind : Kind) (zeros : Bool) (s x : TermSet) → conjugate_set (letters_of kind) zeros s ≡ (done, x) → valid_set false x ≡ true
unfolding conjugate_terms
conjugate_set-nonzero kind zeros s =
    (conjugate_answer_lem (letters_of kind) zeros s (λ v. chain_answer s _ (all_results HasValid HasValid _ (λ y hy. conjugated-valid kind y.key hy) (held_by s) (held_products zeros s v)))).holds tt

-- so number 0 of its kind lets it pass
pub conjugate_set-valid : (kind : Kind) (zeros : Bool) (s x : TermSet) → conjugate_set (letters_of kind) zeros s ≡ (done, x) → valid_set zeros x ≡ true
conjugate_set-valid kind zeros s x e = valid_either zeros x (conjugate_set-nonzero kind zeros s x e)

-- ---- conversion

-- a valid product in letters of the other kind
converted-valid : (kind : Kind) (p : Items) → valid p ≡ true → valid (convert_answer (letters_of kind) (letters_of (other kind)) p).1.1 ≡ true
unfolding convert_answer
converted-valid kind p v =
    let z = (convert_answer (letters_of kind) (letters_of (other kind)) p).1 in
    convert-valid kind p z.0 z.1 (rw v)

module _ (M M' : Letters) (zeros : Bool) (s : TermSet) where
  convert_answer_lem : {P : TermSet → Type 0} → (valid_set zeros s ≡ true → Answered P (filled []) (ended (filled []) (add_all complex_terms (map gives (conversions M M' (held_by s))) [])))
      → Answered P (filled []) (convert_set M M' zeros s)
  unfolding convert_set
  convert_answer_lem h = answered_past (valid_set zeros s) _ _ _ h

  -- the empty set stands beside a refusal
  pub convert_set_refused : (n : ℕ) (l : List ℕ) → (convert_set M M' zeros s).0 ≡ refuses n l → (convert_set M M' zeros s).1 ≡ filled []
  convert_set_refused = (convert_answer_lem (λ v. chain_keeps (filled []) _)).kept

-- an accepted conversion is valid and holds no zero
pub convert_set-nonzero : (kind : Kind) (zeros : Bool) (s x : TermSet)
    → convert_set (letters_of kind) (letters_of (other kind)) zeros s ≡ (done, x) → valid_set false x ≡ true
unfolding convert_terms
convert_set-nonzero kind zeros s =
    (convert_answer_lem (letters_of kind) (letters_of (other kind)) zeros s
    (λ v. chain_answer (filled []) _ (all_results HasValid HasValid _ (λ y hy. converted-valid kind y.key hy) (held_by s) (held_products zeros s v)))
    ).holds tt

-- so number 0 lets it pass, whether its new kind may hold zeros or not
pub convert_set-valid : (kind : Kind) (zeros zeros' : Bool) (s x : TermSet)
    → convert_set (letters_of kind) (letters_of (other kind)) zeros s ≡ (done, x) → valid_set zeros' x ≡ true
convert_set-valid kind zeros zeros' s x e = valid_either zeros' x (convert_set-nonzero kind zeros s x e)

-- ---- a multiple

-- terms whose coefficients change have the keys that they had
has-scaled : (a : Complex) (k : Items) (l : List Term) → has (keyed complex_terms k) (map (scaled_term a) l) ≡ has (keyed complex_terms k) l
unfolding has
has-scaled a k [] = refl
has-scaled a k (x ∷ l) = ap (λ (b : Bool). same_items x.key k || b) (has-scaled a k l)

-- a valid set's terms times a number, each of them in range
scaled-valid : (s : TermSet) (a : Complex) → valid_set true s ≡ true → all_in_range (scaled_terms complex_terms complex_products a (held_by s)) ≡ true
    → valid_set true (filled (scaled_terms complex_terms complex_products a (held_by s))) ≡ true
unfolding scaled_terms entries.all_in_range
scaled-valid s a v r =
    let l = held_by s in
    let w = valid_term_sets true in
    let n = length-map l (scaled_term a) in
    laws.filled-valid w (map (scaled_term a) l) (omega (arith, laws.valid-few w s v))
    (each_results (λ t ts. valid t.key) (λ t ts. valid t.key) (scaled_term a) (λ x xs e. e) l (valid-products true s v))
    (each_follows (λ t ts. in_range t.coefficient) (λ t ts. good_coefficient true t.coefficient) (λ t ts h. and_true h refl) (map (scaled_term a) l) r)
    (each_results (different complex_terms) (different complex_terms) (scaled_term a) (λ x xs e. ap not (has-scaled a x.key xs) ∙ e) l (laws.valid-different w s v))

module _ (s : TermSet) (a : Complex) where
  scale_answer : Answered (λ x. valid_set true x ≡ true) s (scale_set s a)
  unfolding scale_set
  scale_answer =
      answered_past (valid_set true s) _ _ _ (λ v.
      answered_past (in_range a) _ _ _ (λ q.
      finally_answered complex_terms in_range filled (scaled_terms complex_terms complex_products a (held_by s)) (scaled-valid s a v)))

  -- an accepted multiple is valid where zeros are allowed
  pub scale_valid : (x : TermSet) → scale_set s a ≡ (done, x) → valid_set true x ≡ true
  scale_valid = scale_answer.holds tt

  -- the set given stands beside a refusal
  pub scale_refused : (n : ℕ) (l : List ℕ) → (scale_set s a).0 ≡ refuses n l → (scale_set s a).1 ≡ s
  scale_refused = scale_answer.kept
