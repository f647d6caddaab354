-- The steps that a chain takes, terms to add or refusals, in its order, over any coefficients. Document 01: "left terms outermost; each coefficient is (right
-- times factor) times left"; "adds (conjugate of right, times left), times value, left terms outermost"; "passes over empty products".
use Rattle.std.specs.Prelude.{ℕ, Bool, not, ◌&&◌, cond, List, [], ◌∷◌, map}
use Rattle.refusal.specs.Refusals.{Said, gives, refuses}
use Rattle.terms.specs.Keyed.{concat_map}
use Rattle.terms.specs.Kind.{Terms, Products}

-- ---- steps: a term to add, or a refusal

-- what an answer gives goes on to f, and a refusal stays
abbrev pub and_then : {A B : Type 0} → Said A → (A → Said B) → Said B
and_then (gives x) f = f x
and_then (refuses n l) f = refuses n l

-- an answer with a record beside it gives the record, or its refusal
abbrev pub given : {A : Type 0} → Said Unit × A → Said A
given z = and_then z.0 (λ u. gives z.1)

-- ---- the chains

module _ {K N : Type 0} (S : Terms K N) (P : Products N) where
  -- the product of two sets: `times p q` says the power of i and the key of the product of two keys
  unfoldable pub times_steps : (K → K → Said (ℕ × K)) → List S.Term → List S.Term → List (Said S.Term)
  times_steps times l r =
      concat_map (λ x. map (λ y.
      and_then (times (S.key x) (S.key y)) (λ z.
      gives (S.term z.1 (P.product (P.product (S.coefficient y) (P.unit z.0)) (S.coefficient x))))) r) l

  -- the conjugate: `change p` is the power of i and the key of a key's conjugate
  unfoldable pub conjugate_terms : (K → ℕ × K) → List S.Term → List S.Term
  conjugate_terms change l =
      map (λ x. let z = change (S.key x) in S.term z.1 (P.product (P.conjugate (S.coefficient x)) (P.unit z.0))) l

  -- the same terms under other keys: `change p` is the power of i and the key of a key's conversion
  unfoldable pub convert_terms : (K → ℕ × K) → List S.Term → List S.Term
  convert_terms change l =
      map (λ x. let z = change (S.key x) in S.term z.1 (P.product (S.coefficient x) (P.unit z.0))) l

  -- every coefficient times a number; no term is lost
  unfoldable pub scaled_terms : N → List S.Term → List S.Term
  scaled_terms a l = map (λ x. S.term (S.key x) (P.product (S.coefficient x) a)) l

-- the pairs of two sets' terms, as terms of a set T of pairs of keys
module _ {K N : Type 0} (S : Terms K N) (T : Terms (K × K) N) (P : Products N) where
  -- the pairs in which neither key is empty
  unfoldable pub full_terms : (K → Bool) → N → List S.Term → List S.Term → List T.Term
  full_terms empty v l r =
      concat_map (λ x. concat_map (λ y.
      cond (not (empty (S.key x)) && not (empty (S.key y)))
      (T.term (S.key x, S.key y) (P.product (P.product (P.conjugate (S.coefficient y)) (S.coefficient x)) v) ∷ [])
      []) r) l
