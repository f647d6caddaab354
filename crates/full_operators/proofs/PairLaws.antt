-- The steps of full operators: the pair of a left term and a right one, which is passed over where a product is empty, and that the pairs row by row are
-- those of the definition; and what is answered once all is judged. v is the value.
-- Assumes nothing.
use mathlib.Core.Path.{◌≡◌, refl, ap, ◌∙◌}
use mathlib.Core.Bool.{Bool, true, false, not, ◌&&◌, ◌||◌, cond}
use mathlib.Core.List.{List, [], ◌∷◌, map}
use borrow.Author.Tests.{ne_eqb}
use Rattle.refusal.specs.Refusals.{Said, gives}
use Rattle.complex.specs.Complex.{in_range, product_of, conjugate_of}
use Rattle.complex.specs.declared.Complex.{Complex}
use Rattle.terms.specs.Keyed.{concat_map}
use Rattle.terms.specs.Chains.{full_terms}
use Rattle.terms.specs.Setting.{add_all}
use Rattle.terms.proofs.NestedLaws.{map-concat_map, concat_map-same}
use Rattle.term_sets.specs.Complexes.{Term, TermSet}
use Rattle.term_sets.specs.Complexes as operators
use Rattle.noise_sets.specs.Pairs.{NoiseTerm, NoiseSet, pair_terms, pair_of, is_empty, held_by, valid_set}
use Rattle.noise_sets.specs.Answers.{empty_side, ended}
use Rattle.full_operators.specs.FullAnswers.{pairs_of, add_full_operators}

-- what the chain gives
abbrev pub wanted : NoiseSet → TermSet → TermSet → Complex → Said (List NoiseTerm)
wanted s l r v = add_all pair_terms (map gives (pairs_of v (operators.held_by l) (operators.held_by r))) (held_by s)

-- ---- the pair of a left term and a right one

abbrev pair_term : Complex → Term → Term → NoiseTerm
pair_term v x y = pair_of (x.key, y.key) (product_of (product_of (conjugate_of y.coefficient) x.coefficient) v)

-- its steps, none where a product is empty
unfoldable pub pair_steps : Complex → Term → Term → List (Said NoiseTerm)
pair_steps v x y = map gives (cond (not (is_empty x.key) && not (is_empty y.key)) (pair_term v x y ∷ []) [])

neither : (a b : Bool) → (not a && not b) ≡ not (a || b)
neither true b = refl
neither false b = refl

module _ (v : Complex) (x y : Term) where
  -- it is passed over
  pub pair_passed : true ≡ empty_side (x.key, y.key) → pair_steps v x y ≡ []
  unfolding pair_steps
  pair_passed e = rw (neither (is_empty x.key) (is_empty y.key), ← e)

  -- it is added: p, q and w are the conjugate of right, times left, times value
  pub pair_given : false ≡ empty_side (x.key, y.key) → (p q w : Complex) → p ≡ conjugate_of y.coefficient → q ≡ product_of p x.coefficient → w ≡ product_of q v
      → pair_steps v x y ≡ gives (pair_of (x.key, y.key) w) ∷ []
  unfolding pair_steps
  pair_given e p q w conjugate left value =
      let is : w ≡ product_of (product_of (conjugate_of y.coefficient) x.coefficient) v =
      value ∙ ap (λ (z : Complex). product_of z v) (left ∙ ap (λ (z : Complex). product_of z x.coefficient) conjugate) in
      rw (neither (is_empty x.key) (is_empty y.key), ← e, is)

-- ---- all pairs: a row for each left term, r are the right terms

abbrev pub pair_row : Complex → List Term → Term → List (Said NoiseTerm)
pair_row v r x = concat_map (pair_steps v x) r

pub pair_rows : (v : Complex) (l r : List Term) → map gives (pairs_of v l r) ≡ concat_map (pair_row v r) l
unfolding full_terms pair_steps
pair_rows v l r = map-concat_map gives _ l ∙ concat_map-same _ (pair_row v r) (λ x. map-concat_map gives _ r) l

-- ---- the answer, once all that is given is accepted

pub accepted : (s : NoiseSet) (l r : TermSet) (v : Complex) → true ≡ valid_set s → true ≡ operators.valid_set false l → true ≡ operators.valid_set false r
    → (l.count ≡ 0 → ⊥) → (r.count ≡ 0 → ⊥) → true ≡ in_range v → ended s (wanted s l r v) ≡ add_full_operators s l r v
unfolding add_full_operators
accepted s l r v a b c n m range = rw (← a, ← b, ← c, ne_eqb l.count 0 n, ne_eqb r.count 0 m, ← range)
