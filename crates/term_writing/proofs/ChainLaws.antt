-- Chains of additions for callers of `Adding`: a step, whether it was taken, found no room or was itself refused, against `add_all`, in one loop and
-- in two nested ones; and the end against `ended`.
-- Assumes nothing.
use Prim.Native.Nat.{ℕ, suc, ◌+◌, ◌≤◌, ◌<◌}
use mathlib.Core.Path.{◌≡◌, refl, sym, ap, ◌∙◌}
use mathlib.Core.Bool.{Bool, true, false, not, cond}
use mathlib.Core.List.{List, [], ◌∷◌, ◌++◌, append-nil, append_assoc}
use lib.ListN.{length, drop, get_or, drop_of_length-le}
use lib.Seq.{drop-cons}
use native.Mathlib.Numerals.{add-one}
use Rattle.std.specs.Prelude.{Result, Ok, Err}
use Rattle.std.specs.Result.{IsErrAnd}
use Rattle.refusal.specs.Refusals.{Said, gives, refuses, done, number, site_of, said_by, told_by}
use Rattle.refusal.specs.declared.Refusal.{Refusal}
use Rattle.complex.specs.Coefficients.{Coefficients}
use Rattle.terms.specs.Keyed.{concat_map}
use Rattle.terms.specs.Chains.{and_then, given}
use Rattle.terms.specs.Entries.{all_in_range, ended}
use Rattle.terms.specs.Setting.{write, has_room, added, add_all}
use Rattle.terms.proofs.KeyedLaws.{concat_map_nil, concat_map_cons}
use Rattle.terms.proofs.StepLaws.{add_all_nil, add_all_refused}
use Rattle.terms.proofs.AnswerLaws.{ended_refused}
use Rattle.term_sets.specs.Keys.{Keys}
use Rattle.term_sets.specs.Sets.{terms, term_of, filled}
use Rattle.term_sets.specs.declared.Set.{Set}
use Rattle.term_sets.specs.declared.Term.{Term}
use Rattle.term_writing.specs.WritingAnswers.{add_step, finish}

-- by whether there is room: m is what is held then, and `rest` what the later steps make of it
step_by : {A B : Type 0} (room : Bool) (l m : List A) (rest : List A → Said B) (o : Said Unit) (after : List A)
    → ◌≡◌ {A = Said Unit × List A} (o, after) (cond room (done, m) (refuses 6 [], l)) → cond room (rest m) (refuses 6 []) ≡ and_then o (λ u. rest after)
step_by {A} true l m rest o after e = ap (λ (z : Said Unit × List A). and_then z.0 (λ u. rest z.1)) (sym e)
step_by {A} false l m rest o after e = ap (λ (z : Said Unit × List A). and_then z.0 (λ u. rest z.1)) (sym e)

-- an answer with the set that its caller then has
told_of : {A : Type 0} → A → Said A → Said Unit × A
told_of back (gives x) = (done, x)
told_of back (refuses n l) = (refuses n l, back)

told_is : {A : Type 0} (back : A) (r : Result A Refusal) → told_by back (λ x. x) r ≡ told_of back (said_by (λ x. x) r)
unfolding told_of
told_is back (Ok x) = refl
told_is back (Err why) = refl

end_by : {A : Type 0} (back x : A) (fine : Bool) → told_of back (cond (not fine) (refuses 5 []) (gives x)) ≡ cond (not fine) (refuses 5 [], back) (done, x)
unfolding told_of
end_by back x true = refl
end_by back x false = refl

-- what an answer with a record beside it goes on to
pub given_answer : {A B : Type 0} (o : Said Unit) (v : A) {z : Said Unit × A} (f : A → Said B) → (o, v) ≡ z → and_then (given z) f ≡ and_then o (λ u. f v)
given_answer {A} {B} o v f e = ap (λ (z : Said Unit × A). and_then (given z) f) (sym e) ∙ by o
  where
    by : (o : Said Unit) → and_then (given (o, v)) f ≡ and_then o (λ u. f v)
    by (gives u) = refl
    by (refuses n l) = refl

module _ {K N : Type 0} (k : Keys K) (c : Coefficients N) where
  -- one step, then the others
  pub step_told : (x : K) (a : N) (xs : List (Said (Term K N))) (l : List (Term K N)) (o : Said Unit) (after : List (Term K N)) → (o, after) ≡ add_step k c x a l
      → add_all (terms k c) (gives (term_of k c x a) ∷ xs) l ≡ and_then o (λ u. add_all (terms k c) xs after)
  unfolding add_all add_step
  step_told x a xs l o after e =
      let b = added (terms k c) x a l in
      step_by (has_room (terms k c) x b l) l (write (terms k c) x b l) (add_all (terms k c) xs) o after e

  -- ---- steps made by f of the elements of a list: those of the place i on, then `rest`, added to what is held, give all

  pub record Remaining {A : Type 0} (all : Said (List (Term K N))) (f : A → List (Said (Term K N))) (xs : List A) (i : ℕ) (rest : List (Said (Term K N))) (l : List (Term K N)) : Type 0 where
    pub adds : all ≡ add_all (terms k c) (concat_map f (drop i xs) ++ rest) l

  -- none is added yet to the terms m
  pub remaining_all : {A : Type 0} (all : Said (List (Term K N))) (f : A → List (Said (Term K N))) (xs : List A) (m l : List (Term K N)) → all ≡ add_all (terms k c) (concat_map f xs) m → l ≡ m
      → Remaining all f xs 0 [] l
  remaining_all all f xs m l e held = record { adds = e ∙ λ j. add_all (terms k c) (sym (append-nil (concat_map f xs)) j) (sym held j) }

  module _ {A : Type 0} {all : Said (List (Term K N))} {f : A → List (Said (Term K N))} {xs : List A} {i : ℕ} {rest : List (Said (Term K N))} {l : List (Term K N)} (r : Remaining all f xs i rest l) where
    abbrev later : List (Said (Term K N))
    later = concat_map f (drop (i + 1) xs) ++ rest

    -- the next element's steps, then the later ones
    next : (d : A) → i < length xs → all ≡ add_all (terms k c) (f (get_or xs i d) ++ later) l
    next d h =
        r.adds
        ∙ ap (λ ys. add_all (terms k c) ys l)
        (ap (λ ys. concat_map f ys ++ rest) (drop-cons xs i d h)
        ∙ ap (λ ys. ys ++ rest) (concat_map_cons f (get_or xs i d) (drop (suc i) xs))
        ∙ append_assoc (f (get_or xs i d)) (concat_map f (drop (suc i) xs)) rest
        ∙ ap (λ (m : ℕ). f (get_or xs i d) ++ (concat_map f (drop m xs) ++ rest)) (sym (add-one i)))

    -- the element at i makes none, or one, which is refused
    module _ (d : A) (h : i < length xs) where
      pub remaining_passed : f (get_or xs i d) ≡ [] → Remaining all f xs (i + 1) rest l
      remaining_passed e = record { adds = next d h ∙ ap (λ ys. add_all (terms k c) (ys ++ later) l) e }

      pub remaining_refused : {n : ℕ} {m : List ℕ} → f (get_or xs i d) ≡ refuses n m ∷ [] → all ≡ refuses n m
      remaining_refused {n} {m} e = next d h ∙ ap (λ ys. add_all (terms k c) (ys ++ later) l) e ∙ add_all_refused (terms k c) n m later l

      -- or it makes a term, which is added, or finds no room
      module _ (x : K) (a : N) (e : f (get_or xs i d) ≡ gives (term_of k c x a) ∷ []) {after : List (Term K N)} where
        added_next : (o : Said Unit) → (o, after) ≡ add_step k c x a l → all ≡ and_then o (λ u. add_all (terms k c) later after)
        added_next o s = next d h ∙ ap (λ ys. add_all (terms k c) (ys ++ later) l) e ∙ step_told x a later l o after s

        pub remaining_more : (done, after) ≡ add_step k c x a l → Remaining all f xs (i + 1) rest after
        remaining_more s = record { adds = added_next done s }

        pub remaining_full : {n : ℕ} {m : List ℕ} → (refuses n m, after) ≡ add_step k c x a l → all ≡ refuses n m
        remaining_full {n} {m} s = added_next (refuses n m) s

      -- or those that g makes of the elements of another list
      pub row_begins : {B : Type 0} (g : B → List (Said (Term K N))) (ys : List B) → f (get_or xs i d) ≡ concat_map g ys → Remaining all g ys 0 later l
      row_begins g ys e = record { adds = next d h ∙ ap (λ zs. add_all (terms k c) (zs ++ later) l) e }

  -- no element is left, in a row, and at the end
  row_ends : {A : Type 0} {all : Said (List (Term K N))} {f : A → List (Said (Term K N))} {xs : List A} {i : ℕ} {rest : List (Said (Term K N))} {l : List (Term K N)}
      → Remaining all f xs i rest l → length xs ≤ i → all ≡ add_all (terms k c) rest l
  row_ends {f = f} {xs = xs} {rest = rest} {l = l} r h =
      r.adds ∙ ap (λ ys. add_all (terms k c) (ys ++ rest) l) (ap (concat_map f) (drop_of_length-le xs h) ∙ concat_map_nil f)

  pub remaining_after : {A B : Type 0} {all : Said (List (Term K N))} {f : A → List (Said (Term K N))} {xs : List A} (i : ℕ) {rest : List (Said (Term K N))} {l : List (Term K N)} {g : B → List (Said (Term K N))} {ys : List B} {j : ℕ}
      → Remaining all g ys j (concat_map f (drop (i + 1) xs) ++ rest) l → length ys ≤ j → Remaining all f xs (i + 1) rest l
  remaining_after i r h = record { adds = row_ends r h }

  pub remaining_none : {A : Type 0} {all : Said (List (Term K N))} {f : A → List (Said (Term K N))} {xs : List A} {i : ℕ} {l : List (Term K N)}
      → Remaining all f xs i [] l → length xs ≤ i → all ≡ gives l
  remaining_none {l = l} r h = row_ends r h ∙ add_all_nil (terms k c) l

  -- ---- what is answered, with what stands beside a refusal

  pub refused_told : (back : Set K N) (all : Said (List (Term K N))) (r : Result (Set K N) Refusal) (why : Refusal) → IsErrAnd r (λ w. w ≡ why) → all ≡ refuses (number why) (site_of why)
      → told_by back (λ s. s) r ≡ ended (terms k c) c.in_range (filled k c) back all
  refused_told back all (Ok x) why h e = absurd h
  refused_told back all (Err w) why h e =
      ap (λ (v : Refusal). told_by back (λ s. s) (Err v)) h ∙ ended_refused (terms k c) c.in_range (filled k c) back e

  pub end_told : (back : Set K N) (l : List (Term K N)) (r : Result (Set K N) Refusal) → said_by (λ s. s) r ≡ finish k c l
      → told_by back (λ s. s) r ≡ ended (terms k c) c.in_range (filled k c) back (gives l)
  unfolding finish ended
  end_told back l r e = told_is back r ∙ ap (told_of back) e ∙ end_by back (filled k c l) (all_in_range (terms k c) c.in_range l)
