-- `site::put`: the test tells whether the site is at its place, or free.
-- Assumes nothing.
use Rattle.std.proofs.Common.{◌≡◌, true, false, ◌<◌, sym, ◌∙◌, arith}
use borrow.Author.Tests.{eqb-true, eq-eqb, le-ltb}
use mathlib.Core.Bool.{true≢false}
use Rattle.items.specs.Lists.{at}
use Rattle.items.specs.Record.{letter_at}
use Rattle.items.proofs.RecordLaws.{place_fits}
use Rattle.merging.proofs.PlaceLaws.{place_free}
use Rattle.merging.proofs.PutLaws.{put_there, put_identity, put_nothing}
use Rattle.merging.proofs.site.put.Goals as goal
use Rattle.merging.proofs.site.put.Goals.{Joined-place-p, then-place-p, else-place-p}

-- the site at the place is the site, or the site is free
taken : (c : Joined-place-p) → c.if-place-p.is_taken ≡ true
    → (c.place_of-place.result < c.args.p.now.items.count) × (at c.args.p.now.items.sites c.place_of-place.result ≡ c.args.site)
taken c t =
    elim c.if-place-p.branch [
      | then-place-p w ↦ (w.if-place-p.true, eqb-true _ _ (sym w.is_taken-is ∙ t))
      | else-place-p w ↦ absurd (true≢false (sym t ∙ w.is_taken-is ∙ le-ltb _ _ w.if-place-p.false))
    ]

free : (c : Joined-place-p) → c.if-place-p.is_taken ≡ false → letter_at c.args.p.now.items c.args.site ≡ 0
free c f =
    elim c.if-place-p.branch [
      | then-place-p w ↦ place_free _ c.args.p.now.is_valid c.place_of-place.ensures (λ l e. true≢false (sym (eq-eqb _ _ e) ∙ sym w.is_taken-is ∙ f))
      | else-place-p w ↦ place_free _ c.args.p.now.is_valid c.place_of-place.ensures (λ l e. absurd (omega (arith, w.if-place-p.false)))
    ]

pub bounds-p-place : goal.bounds-p-place
bounds-p-place c = place_fits _ _ c.args.p.now.is_valid c.if-place-p.true

pub inserted-requires : goal.inserted-requires
inserted-requires c =
    let r = c.requires in
    let some = c.in-false-default.is-1.1 in
    (r.0, omega arith, r.1, c.place_of-place.ensures, free (goal.at.inserted-requires c).Joined-place-p c.in-false-default.is-0)

pub returns-in-true-eq0 : goal.returns-in-true-eq0
returns-in-true-eq0 c =
    let zero = c.in-true-eq0.is-1 in
    c.removed.ensures ∙ put_identity _ c.args.p.now.is_valid _ (omega arith) (taken (goal.at.returns-in-true-eq0 c).Joined-place-p c.in-true-eq0.is-0)

pub returns-in-true-default : goal.returns-in-true-default
returns-in-true-default c =
    c.replaced.ensures ∙ put_there _ c.args.p.now.is_valid _ (taken (goal.at.returns-in-true-default c).Joined-place-p c.in-true-default.is-0)

pub returns-in-false-eq0 : goal.returns-in-false-eq0
returns-in-false-eq0 c =
    let zero = c.in-false-eq0.is-1 in
    put_nothing _ c.args.p.now.is_valid _ _ (omega arith) (free (goal.at.returns-in-false-eq0 c).Joined-place-p c.in-false-eq0.is-0)
