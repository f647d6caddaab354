-- A loop that looks for the first place at which a test passes: what is known between two places, and the place that it ends with.
-- Assumes nothing.
use mathlib.Core.Path.{◌≡◌, sym, ap, ◌∙◌}
use mathlib.Core.Bool.{Bool, true, false, cond}
use mathlib.Core.Logic.{⊎_elim}
use Prim.Native.Nat.{ℕ, zero, suc, ◌+◌, ◌≤◌, ◌<◌}
use native.Mathlib.Omega.{arith}
use Rattle.letters.specs.Tests.{first_from}
use Rattle.letters.proofs.TestLaws.{first_at_lem, first_none}
use Rattle.items.proofs.ListLaws.{below_cases}

-- the first place is one of those looked at, or the end
pub first_within : (test : ℕ → Bool) (n i : ℕ) → first_from test n i ≤ i + n
unfolding first_from
first_within test zero i = omega arith
first_within test (suc n) i = go (test i) (first_within test n (suc i))
  where
    go : (b : Bool) → first_from test n (suc i) ≤ suc i + n → cond b i (first_from test n (suc i)) ≤ i + suc n
    go true h = omega arith
    go false h = omega arith

-- the test fails at each of the first i of n places
pub record Scan (test : ℕ → Bool) (n i : ℕ) : Type 0 where
  pub within : i ≤ n
  pub fails : (k : ℕ) → k < i → test k ≡ false

-- no place is passed
pub scan_none : (test : ℕ → Bool) (n : ℕ) → Scan test n 0
scan_none test n = record { within = omega arith; fails = λ k l. absurd (omega arith) }

module _ {test : ℕ → Bool} {n i : ℕ} (h : Scan test n i) where
  -- one place more, at which it fails
  pub scan_more : i < n → test i ≡ false → Scan test n (i + 1)
  scan_more l e =
      record {
        within = omega arith;
        fails = λ k m. ⊎_elim (λ q. ap test q ∙ e) (h.fails k) (below_cases k i (omega arith));
      }

  -- the first place at which it passes
  pub scan_found : i < n → test i ≡ true → i ≡ first_from test n 0
  scan_found l e = sym (first_at_lem test n 0 i (omega arith) (omega arith) (λ k a b. h.fails k b) e)

  -- there is none
  pub scan_done : n ≤ i → i ≡ first_from test n 0
  scan_done l =
      let e : first_from test n 0 ≡ 0 + n = first_none test n 0 (λ k a b. h.fails k (omega arith)) in
      omega (arith, h.within)
