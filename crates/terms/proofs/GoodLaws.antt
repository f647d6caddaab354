-- Good terms, for any kind of terms: the three tests of a term, what each of a list of good terms has,
-- and that terms that pass the tests are good.
-- Assumes nothing.
use mathlib.Core.Path.{◌≡◌}
use mathlib.Core.Bool.{Bool, true, ◌&&◌}
use mathlib.Core.List.{List}
use Rattle.letters.proofs.TestLaws.{and_true, and_left, and_right}
use Rattle.terms.specs.Keyed.{each}
use Rattle.terms.specs.Kind.{Terms}
use Rattle.terms.specs.Places.{good_term}
use Rattle.terms.proofs.SettingLaws.{different}
use Rattle.terms.proofs.EachLaws.{each_follows, each_both}

module _ {K N : Type 0} (S : Terms K N) (good_key : K → Bool) (good_coefficient : N → Bool) where
  -- ---- one term, before the terms ts

  abbrev good : S.Term → List S.Term → Bool
  good = good_term S good_key good_coefficient

  -- the test of its coefficient and of the later terms
  abbrev rest : S.Term → List S.Term → Bool
  rest t ts = good_coefficient (S.coefficient t) && different S t ts

  -- each of its three tests from it
  pub good_key_lem : (t : S.Term) (ts : List S.Term) → good t ts ≡ true → good_key (S.key t) ≡ true
  unfolding good_term
  good_key_lem t ts e = and_left (good_key (S.key t)) (rest t ts) e

  good_rest : (t : S.Term) (ts : List S.Term) → good t ts ≡ true → rest t ts ≡ true
  unfolding good_term
  good_rest t ts e = and_right (good_key (S.key t)) (rest t ts) e

  pub good_coefficient_lem : (t : S.Term) (ts : List S.Term) → good t ts ≡ true → good_coefficient (S.coefficient t) ≡ true
  good_coefficient_lem t ts e = and_left (good_coefficient (S.coefficient t)) (different S t ts) (good_rest t ts e)

  pub good_different : (t : S.Term) (ts : List S.Term) → good t ts ≡ true → different S t ts ≡ true
  good_different t ts e = and_right (good_coefficient (S.coefficient t)) (different S t ts) (good_rest t ts e)

  -- ---- a list of good terms: what each of them has

  pub good_keys : (l : List S.Term) → each good l ≡ true → each (λ t ts. good_key (S.key t)) l ≡ true
  good_keys = each_follows good (λ t ts. good_key (S.key t)) good_key_lem

  pub good_coefficients : (l : List S.Term) → each good l ≡ true → each (λ t ts. good_coefficient (S.coefficient t)) l ≡ true
  good_coefficients = each_follows good (λ t ts. good_coefficient (S.coefficient t)) good_coefficient_lem

  pub good_differents : (l : List S.Term) → each good l ≡ true → each (different S) l ≡ true
  good_differents = each_follows good (different S) good_different

  -- terms are good that pass the tests of keys, of coefficients and of later terms
  pub all_good : (l : List S.Term) → each (λ t ts. good_key (S.key t)) l ≡ true → each (λ t ts. good_coefficient (S.coefficient t)) l ≡ true → each (different S) l ≡ true
      → each good l ≡ true
  unfolding good_term
  all_good l v c k =
      each_both (λ t ts. good_key (S.key t)) rest good (λ t ts a b. and_true a b) l v
      (each_both (λ t ts. good_coefficient (S.coefficient t)) (different S) rest (λ t ts a b. and_true a b) l c k)
