-- Two valid records that agree in every place below one count are equal.
-- Assumes nothing.
use mathlib.Core.Path.{◌≡◌, sym, ◌∙◌}
use mathlib.Core.List.{List}
use mathlib.Core.Bool.{true}
use mathlib.Core.Logic.{by_cases}
use Prim.Native.Nat.{ℕ, ◌≤◌, ◌<◌}
use native.Mathlib.Decide.{dec_lt}
use native.Mathlib.Omega.{arith}
use lib.ListN.{length}
use lib.Seq.{ext_get_or}
use Rattle.items.specs.Lists.{at}
use Rattle.items.specs.Record.{capacity, valid}
use Rattle.items.specs.declared.Items.{Items}
use Rattle.items.proofs.RecordLaws.{valid_shape, valid_past}

-- lists of one length that agree below n, with zeros from n on
agree : (x y : List ℕ) (n : ℕ) → length x ≡ capacity → length y ≡ capacity → ((i : ℕ) → i < n → at x i ≡ at y i)
    → ((i : ℕ) → n ≤ i → i < capacity → at x i ≡ 0) → ((i : ℕ) → n ≤ i → i < capacity → at y i ≡ 0) → x ≡ y
agree x y n lx ly h zx zy =
    ext_get_or 0 x y (lx ∙ sym ly) (λ i l. by_cases (dec_lt i n) (λ a. h i a) (λ a. zx i (omega arith) (omega arith) ∙ sym (zy i (omega arith) (omega arith))))

pub valid_same : (p q : Items) → valid p ≡ true → valid q ≡ true → p.count ≡ q.count → ((i : ℕ) → i < p.count → at p.sites i ≡ at q.sites i) → ((i : ℕ) → i < p.count → at p.letters i ≡ at q.letters i) → p ≡ q
valid_same p q v w e hs hl =
    let a = valid_shape p v in
    let b = valid_shape q w in
    let s : p.sites ≡ q.sites =
    agree p.sites q.sites p.count a.sites_long b.sites_long hs (λ i l m. (valid_past p v i l m).0) (λ i l m. (valid_past q w i (omega arith) m).0) in
    let t : p.letters ≡ q.letters =
    agree p.letters q.letters p.count a.letters_long b.letters_long hl (λ i l m. (valid_past p v i l m).1) (λ i l m. (valid_past q w i (omega arith) m).1) in
    λ j. record { count = e j; sites = s j; letters = t j }
