-- The steps of the chains on sets: what a term adds, what a pair of terms, a conjugate and a conversion, as the calls on keys answer; and that the
-- steps of the definitions are these.
-- Assumes nothing.
use Prim.Native.Nat.{ℕ, ◌<◌}
use mathlib.Core.Path.{◌≡◌, sym, ap, ◌∙◌}
use mathlib.Core.Bool.{Bool, true}
use mathlib.Core.List.{List, [], ◌∷◌, map}
use lib.ListN.{length, get_or}
use Rattle.std.proofs.lemmas.Simd.{map-map}
use Rattle.refusal.specs.Refusals.{Said, gives, refuses, done}
use Rattle.complex.specs.Complex.{product_of, conjugate_of, unit_of_I}
use Rattle.complex.specs.declared.Complex.{Complex}
use Rattle.letters.specs.Matrices.{Letters}
use Rattle.items.specs.Record.{valid}
use Rattle.items.specs.declared.Items.{Items}
use Rattle.merging.specs.ProductAnswers.{multiply_answer}
use Rattle.phases.specs.Answers.{conjugate_answer, convert_answer}
use Rattle.terms.specs.Keyed.{each, concat_map}
use Rattle.terms.specs.Chains.{and_then, given, times_steps, conjugate_terms, convert_terms}
use Rattle.terms.proofs.AnswerLaws.{not_both}
use Rattle.terms.proofs.KeyedLaws.{each_at}
use Rattle.terms.proofs.NestedLaws.{concat_map_one, concat_map-same}
use Rattle.term_sets.specs.Complexes.{Term, TermSet, term_of, held_by, valid_set}
use Rattle.term_sets.proofs.ValidLaws.{valid-products}
use Rattle.term_writing.proofs.ChainLaws.{given_answer}
use Rattle.chains.specs.ChainAnswers.{product_steps, conjugates, conversions}

-- ---- the product of two sets: a row for each left term, a step for each right one

-- the term of a power of i and a key
abbrev product_term : Term → Term → ℕ × Items → Said Term
product_term x y z = gives (term_of z.1 (product_of (product_of y.coefficient (unit_of_I z.0)) x.coefficient))

unfoldable pub product_step : Letters → Term → Term → List (Said Term)
product_step M x y = and_then (given (multiply_answer M x.key y.key)) (product_term x y) ∷ []

abbrev pub product_row : Letters → List Term → Term → List (Said Term)
product_row M r x = concat_map (product_step M x) r

pub product_rows : (M : Letters) (l r : List Term) → product_steps M l r ≡ concat_map (product_row M r) l
unfolding times_steps product_step
product_rows M l r = concat_map-same _ (product_row M r) (λ x. concat_map_one (λ y. and_then (given (multiply_answer M x.key y.key)) (product_term x y)) r) l

module _ (M : Letters) (x y : Term) (z : ℕ × Items) where
  -- the product of the keys is refused
  pub product_refused : (n : ℕ) (l : List ℕ) → (refuses n l, z) ≡ multiply_answer M x.key y.key → product_step M x y ≡ refuses n l ∷ []
  unfolding product_step
  product_refused n l e = ap (λ (s : Said Term). s ∷ []) (given_answer (refuses n l) z (product_term x y) e)

  -- it is z, a power of i, which is u, and a key; w is the right coefficient times u, and v that times the left one
  pub product_given : (u w v : Complex) → (done, z) ≡ multiply_answer M x.key y.key → u ≡ unit_of_I z.0 → w ≡ product_of y.coefficient u → v ≡ product_of w x.coefficient
      → product_step M x y ≡ gives (term_of z.1 v) ∷ []
  unfolding product_step
  product_given u w v e unit right left =
      ap (λ (s : Said Term). s ∷ []) (given_answer done z (product_term x y) e)
      ∙ ap (λ (a : Complex). gives (term_of z.1 a) ∷ [])
      (sym (left ∙ ap (λ (a : Complex). product_of a x.coefficient) (right ∙ ap (product_of y.coefficient) unit)))

-- ---- terms, each added as it is or with its key changed

abbrev pub term_step : Term → List (Said Term)
term_step x = gives x ∷ []

-- the term of a coefficient a under the key, and with the power of i, that a change of keys answers
abbrev pub changed_step : Said Unit × (ℕ × Items) → Complex → List (Said Term)
changed_step z a = gives (term_of z.1.1 (product_of a (unit_of_I z.1.0))) ∷ []

-- z is what the change gives, a power of i, which is u, and a key; v is the coefficient times u
pub changed : (z : ℕ × Items) {o : Said Unit} {answer : Said Unit × (ℕ × Items)} (a b u v : Complex) → (o, z) ≡ answer → a ≡ b → u ≡ unit_of_I z.0 → v ≡ product_of a u
    → changed_step answer b ≡ gives (term_of z.1 v) ∷ []
changed z {o} a b u v e same unit times =
    ap (λ (t : Said Unit × (ℕ × Items)). changed_step t b) (sym e)
    ∙ ap (λ (c : Complex). gives (term_of z.1 c) ∷ []) (sym (times ∙ λ j. product_of (same j) (unit j)))

abbrev pub conjugate_step : Letters → Term → List (Said Term)
conjugate_step M x = changed_step (conjugate_answer M x.key) (conjugate_of x.coefficient)

abbrev pub convert_step : Letters → Letters → Term → List (Said Term)
convert_step M M' x = changed_step (convert_answer M M' x.key) x.coefficient

-- the terms that these give
abbrev pub conjugate_term : Letters → Term → Term
conjugate_term M x =
    let z = (conjugate_answer M x.key).1 in
    term_of z.1 (product_of (conjugate_of x.coefficient) (unit_of_I z.0))

abbrev pub convert_term : Letters → Letters → Term → Term
convert_term M M' x =
    let z = (convert_answer M M' x.key).1 in
    term_of z.1 (product_of x.coefficient (unit_of_I z.0))

-- a step gives one term
pub one_term : {t u : Term} → ◌≡◌ {A = List (Said Term)} (gives t ∷ []) (gives u ∷ []) → u ≡ t
one_term {t} {u} e = cc

pub conjugate_steps : (M : Letters) (l : List Term) → map gives (conjugates M l) ≡ concat_map (conjugate_step M) l
unfolding conjugate_terms
conjugate_steps M l = map-map gives _ l ∙ concat_map_one _ l

pub convert_steps : (M M' : Letters) (l : List Term) → map gives (conversions M M' l) ≡ concat_map (convert_step M M') l
unfolding convert_terms
convert_steps M M' l = map-map gives _ l ∙ concat_map_one _ l

-- ---- valid keys are not refused

pub multiply-done : (M : Letters) (p q : Items) → valid p ≡ true → valid q ≡ true → multiply_answer M p q ≡ (done, (multiply_answer M p q).1)
unfolding multiply_answer
multiply-done M p q v w = rw (v, w)

pub conjugate-done : (M : Letters) (p : Items) → valid p ≡ true → conjugate_answer M p ≡ (done, (conjugate_answer M p).1)
unfolding conjugate_answer
conjugate-done M p v = rw v

pub convert-done : (M M' : Letters) (p : Items) → valid p ≡ true → convert_answer M M' p ≡ (done, (convert_answer M M' p).1)
unfolding convert_answer
convert-done M M' p v = rw v

pub not_refused : {n : ℕ} {l : List ℕ} {z y : ℕ × Items} {answer : Said Unit × (ℕ × Items)} → (refuses n l, z) ≡ answer → answer ≡ (done, y) → ⊥
not_refused {n} {l} e d = not_both tt n l (sym (ap (λ t. t.0) (e ∙ d)))

-- the keys of a valid set's terms are valid
pub key_valid : (zeros : Bool) (s : TermSet) → valid_set zeros s ≡ true → {l : List Term} → l ≡ held_by s → (i : ℕ) (d : Term) → i < length l → valid (get_or l i d).key ≡ true
key_valid zeros s v {l} e i d h = each_at (λ t ts. valid t.key) l i d h (ap (each (λ t ts. valid t.key)) e ∙ valid-products zeros s v)
