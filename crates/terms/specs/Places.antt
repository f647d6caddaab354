-- Which terms, counts and places make a valid set, for any kind of terms. Document 01, number 0.
use Rattle.std.specs.Prelude.{ℕ, Bool, not, ◌&&◌, List, leb, eqb, length, take, drop}
use Rattle.terms.specs.Keyed.{has, each}
use Rattle.terms.specs.Kind.{Terms}
use Rattle.terms.specs.Setting.{most_terms, keyed}

-- a held term: a good key, a good coefficient, and no later term with its key
unfoldable pub good_term : {K N : Type 0} (S : Terms K N) → (K → Bool) → (N → Bool) → S.Term → List S.Term → Bool
good_term S good_key good_coefficient t ts = good_key (S.key t) && (good_coefficient (S.coefficient t) && not (has (keyed S (S.key t)) ts))

-- a count n of at most the most terms, and places t: each held term, with those after it, is good, and the places past them are blank
unfoldable pub valid_places : {A : Type 0} → (A → List A → Bool) → (A → Bool) → ℕ → List A → Bool
valid_places good is_blank n t =
    eqb (length t) most_terms && (leb n most_terms && (each good (take n t) && each (λ x xs. is_blank x) (drop n t)))
