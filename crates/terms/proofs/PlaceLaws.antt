-- A value of a set's term, which code reads from its place. A set has its count n and its places t.
-- Assumes nothing.
use Prim.Native.Nat.{ℕ, ◌<◌}
use mathlib.Core.Path.{◌≡◌, sym, ap, ◌∙◌}
use mathlib.Core.List.{List}
use lib.ListN.{take, get_or}
use lib.Seq.{get_or-take}

pub term_read : {A B : Type 0} (f : A → B) (n : ℕ) (t : List A) (i : ℕ) (d : A) {b : B} → i < n → b ≡ f (get_or t i d) → b ≡ f (get_or (take n t) i d)
term_read f n t i d h e = e ∙ ap f (sym (get_or-take n t i d h))
