-- What closing up over a struck element leaves: the ones that count, without the one at the place.
-- Assumes nothing.
use Prim.Native.Nat.{ℕ, ◌+◌, ◌-◌, ◌≤◌, ◌<◌}
use native.Mathlib.Omega.{arith}
use mathlib.Core.Path.{◌≡◌, sym, ap, ◌∙◌}
use mathlib.Core.List.{List, ◌++◌}
use lib.ListN.{length, take, drop}
use lib.Seq.{length-take-le, take-take, take_at}
use Rattle.std.specs.List.{copy_within}
use Rattle.std.proofs.lemmas.List.{drop-take}
use Rattle.terms.specs.Keyed.{omitted}
use Rattle.terms.proofs.ClosingLaws.{closed_up, length-omitted}

module _ {A : Type 0} (at n : ℕ) (l : List A) (h : at < n) (few : n ≤ length l) where
  -- the later ones, copied one place to the front
  pub copied_is : copy_within l (at + 1) n at ≡ closed_up at n l
  copied_is =
      let last : at + (n - (at + 1)) ≡ n - 1 = omega arith in
      let all : (at + 1) + (n - (at + 1)) ≡ n = omega arith in
      let earlier : take at l ≡ take at (take n l) = sym (take-take at n l (omega arith)) in
      let later : take (n - (at + 1)) (drop (at + 1) l) ≡ drop (at + 1) (take n l) =
      sym (drop-take (at + 1) (n - (at + 1)) l) ∙ ap (λ (k : ℕ). drop (at + 1) (take k l)) all in
      λ j. (earlier j ++ later j) ++ drop (last j) l

  -- the ones that count
  pub copied-take : take (n - 1) (copy_within l (at + 1) n at) ≡ omitted at (take n l)
  copied-take =
      let e = length-take-le n l few in
      let o = length-omitted at (take n l) (omega arith) in
      ap (take (n - 1)) copied_is ∙ take_at (omitted at (take n l)) (drop (n - 1) l) (n - 1) (omega arith)
