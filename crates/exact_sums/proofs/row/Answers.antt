-- Each contribution is tested (`smalls`); one is too large, or their row is exact (`entries_large`, `entries_small`).
use Prim.Native.Nat.{ℕ}
use mathlib.Core.Path.{◌≡◌, ◌∙◌, sym, ap}
use mathlib.Core.Bool.{false}
use mathlib.Core.List.{List, map}
use borrow.Author.Tests.{tests}
use Rattle.std.proofs.Common.{rules}
use Rattle.std.proofs.lemmas.Iterator.{YieldsList-from_slice}
use Rattle.std.proofs.lemmas.Iterator.Search.{all_from_yields_List}
use Rattle.rows.specs.Pairs.{pairs}
use Rattle.rows.specs.Placing.{row_in}
use Rattle.rows.specs.declared.Entry.{Entry}
use Rattle.exact_sums.specs.ExactSums.{whole, within, largest_contribution, all_small, exact_answer}
use Rattle.exact_sums.specs.Exact.{exact_pair}
use Rattle.exact_sums.specs.Wrapped.{wrapped}
use Rattle.exact_sums.specs.declared.Halves.{Halves}
use Rattle.exact_sums.proofs.ExactLaws.{smalls, entries_large, entries_small}
use Rattle.exact_sums.proofs.row.Goals.{After-all}
use Rattle.exact_sums.proofs.row.Goals as goal

tested : (c : After-all) → c.all.result ≡ all_small (map exact_pair (pairs c.entries.result.now))
tested c =
    let small = λ (e : Entry Halves). within largest_contribution (whole e.value.re e.value.im) in
    all_from_yields_List small _ _ _ c.all.ensures.ran (YieldsList-from_slice c.entries.result.now c.iter.ensures.rest) (λ x b q k. search (rules, tests)) ∙ smalls c.entries.result.now

pub returns-then-not-all : goal.returns-then-not-all
returns-then-not-all c =
    let k = (goal.at.returns-then-not-all c).After-all in
    entries_large k.entries.result.now k.entries.ensures.few (sym (tested k) ∙ c.if-not-all.true)
    ∙ ap (λ (l : List (ℕ × Halves)). exact_answer (map exact_pair l)) k.entries.ensures.list

pub returns : goal.returns
returns c =
    let k = (goal.at.returns c).After-all in
    entries_small k.entries.result.now k.entries.ensures.few (sym (tested k) ∙ c.if-not-all.false) _
    (c.row.ensures ∙ ap (row_in wrapped false) (sym k.entries.ensures.list))
    ∙ ap (λ (l : List (ℕ × Halves)). exact_answer (map exact_pair l)) k.entries.ensures.list
