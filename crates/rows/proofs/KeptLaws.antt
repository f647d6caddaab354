-- The entries that are kept: all of them, or those that are not zero. Assumes nothing.
use Prim.Native.Nat.{ℕ, ◌+◌}
use mathlib.Core.Path.{◌≡◌, refl, ap}
use mathlib.Core.Bool.{Bool, true, false, cond, not, ◌||◌}
use mathlib.Core.List.{List, [], ◌∷◌, ◌++◌}
use Rattle.std.proofs.Common.{filter}
use Rattle.rows.specs.Pairs.{pair, pairs}
use Rattle.rows.specs.Placing.{nonzero, kept_by}
use Rattle.rows.specs.declared.Entry.{Entry}

module _ {N : Type 0} (is_zero : N → Bool) where
  pub kept_zero : (e : ℕ × N) (zeros : Bool) → zeros ≡ false → is_zero e.1 ≡ true → kept_by is_zero zeros (e ∷ []) ≡ []
  unfolding nonzero kept_by
  kept_zero e zeros p q = rw (p, q)

  pub kept_other : (e : ℕ × N) (zeros : Bool) → is_zero e.1 ≡ false → kept_by is_zero zeros (e ∷ []) ≡ e ∷ []
  unfolding nonzero kept_by
  kept_other e true q = refl
  kept_other e false q = rw q

  pub kept_with : (e : ℕ × N) (zeros : Bool) → zeros ≡ true → kept_by is_zero zeros (e ∷ []) ≡ e ∷ []
  unfolding kept_by
  kept_with e zeros p = rw p

  pub kept_none : (zeros : Bool) → kept_by is_zero zeros [] ≡ []
  unfolding nonzero kept_by
  kept_none true = refl
  kept_none false = refl

  pub kept_cons : (zeros : Bool) (e : ℕ × N) (l : List (ℕ × N)) → kept_by is_zero zeros (e ∷ l) ≡ kept_by is_zero zeros (e ∷ []) ++ kept_by is_zero zeros l
  unfolding nonzero kept_by
  kept_cons true e l = refl
  kept_cons false e l = go (is_zero e.1)
    where
      go : (t : Bool) → cond t (nonzero is_zero l) (e ∷ nonzero is_zero l) ≡ cond t [] (e ∷ []) ++ nonzero is_zero l
      go true = refl
      go false = refl

-- entries that a filter keeps
pub kept_filtered : {N : Type 0} (is_zero : N → Bool) (zeros : Bool) (l : List (Entry N)) → pairs (filter (λ e. zeros || not (is_zero e.value)) l) ≡ kept_by is_zero zeros (pairs l)
unfolding nonzero kept_by
kept_filtered is_zero true [] = refl
kept_filtered is_zero true (x ∷ l) = ap (λ t. pair x ∷ t) (kept_filtered is_zero true l)
kept_filtered is_zero false [] = refl
kept_filtered is_zero false (x ∷ l) = go (is_zero x.value) (filter (λ e. not (is_zero e.value)) l) (kept_filtered is_zero false l)
  where
    go : (t : Bool) (r : List (Entry _)) {k : List (ℕ × _)} → pairs r ≡ k → pairs (cond (not t) (x ∷ r) r) ≡ cond t k (pair x ∷ k)
    go true r e = e
    go false r e = ap (λ t. pair x ∷ t) e
