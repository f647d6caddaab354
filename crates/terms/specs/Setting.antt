-- Setting and adding under a key, for any kind of terms. Document 01: "`set` with a nonzero coefficient replaces in its place or
-- appends; with zero it removes, and later terms close up"; "`add_operator_product` sets old plus new".
use Rattle.std.specs.Prelude.{ℕ, Bool, ◌||◌, cond, List, [], ◌∷◌, ltb, length}
use Rattle.refusal.specs.Refusals.{Said, gives, refuses}
use Rattle.terms.specs.Keyed.{held, has, written, struck, head_or}
use Rattle.terms.specs.Kind.{Terms}

-- the most terms that a set holds
abbrev pub most_terms : ℕ
most_terms = 64

module _ {K N : Type 0} (S : Terms K N) where
  -- a term has the key k
  abbrev pub keyed : K → S.Term → Bool
  keyed k t = S.same (S.key t) k

  -- the coefficient under a key, zero where there is none
  unfoldable pub coefficient_at : K → List S.Term → N
  coefficient_at k l = head_or S.coefficient S.zero (held (keyed k) l)

  -- a coefficient put under a key
  unfoldable pub write : K → N → List S.Term → List S.Term
  write k a l = cond (S.is_zero a) (struck (keyed k) l) (written (keyed k) (S.term k a) l)

  -- whether there is room for it: zero needs none, nor does a key that is there
  unfoldable pub has_room : K → N → List S.Term → Bool
  has_room k a l = S.is_zero a || (has (keyed k) l || ltb (length l) most_terms)

  -- a coefficient added to the one under a key
  unfoldable pub added : K → N → List S.Term → N
  added k a l = S.sum (coefficient_at k l) a

  -- the steps of a chain, one after the other, each a term to add or a refusal: the first refused step refuses the chain, and so does, by 6, a
  -- step at which one more than the most would be held
  unfoldable pub add_all : List (Said S.Term) → List S.Term → Said (List S.Term)
  add_all [] l = gives l
  add_all (refuses n s ∷ xs) l = refuses n s
  add_all (gives t ∷ xs) l =
      let k = S.key t in
      let a = added k (S.coefficient t) l in
      let r = add_all xs (write k a l) in
      cond (has_room k a l) r (refuses 6 [])
