-- The terms that a set with a count holds.
-- Assumes nothing.
use Prim.Native.Nat.{ℕ, min}
use native.Mathlib.Omega.{arith}
use mathlib.Core.Path.{◌≡◌, sym, ap, ◌∙◌}
use mathlib.Core.List.{List}
use lib.ListN.{length, take}
use lib.Dec.{leb}
use lib.Seq.{take_all}
use borrow.Author.Tests.{leb-true, leb-false}
use Rattle.terms.specs.Setting.{most_terms}
use Rattle.terms.proofs.KeyedLaws.{by_test}

-- a count past the places holds as many terms as there are places
pub take-held : {A : Type 0} (t : List A) (count : ℕ) {n : ℕ} → length t ≡ most_terms → n ≡ min count most_terms → take n t ≡ take count t
take-held t count {n} whole e =
    by_test (leb count most_terms)
    (λ q. let h = leb-true count most_terms q in let m : n ≡ count = omega arith in ap (λ (k : ℕ). take k t) m)
    (λ q. let h = leb-false count most_terms q in take_all n t (omega arith) ∙ sym (take_all count t (omega arith)))
