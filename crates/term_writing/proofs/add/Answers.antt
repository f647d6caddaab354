-- `add`: a valid set holds its own terms, so `put` takes it, and what it holds is what is written.
use Rattle.std.proofs.Common.{rules, ◌∙◌, sym}
use Rattle.std.proofs.lemmas.Result.{err_from_is_err_and}
use Rattle.terms.proofs.ValidSetLaws as laws
use Rattle.term_sets.proofs.ValidLaws.{valid_sets}
use Rattle.term_writing.proofs.EntryLaws.{add_refused, accepted-valid, sum_full, sum_out, sum_done}
use Rattle.term_writing.proofs.add.Goals as goal

pub returns-in_err-check : goal.returns-in_err-check
returns-in_err-check g c =
    let p = err_from_is_err_and c.from_residual.result c.from_residual.ensures.1 in
    add_refused _ _ _ _ _ _ _ _ _ (rw (p.1, p.2)) c.in_err-check.ensures

pub returns-then-not-has_room : goal.returns-then-not-has_room
returns-then-not-has_room g c =
    sum_full _ _ _ _ _ _ c.in_ok-check.ensures c.sum_at-sum.result (c.sum_at-sum.ensures c.args.key c.find-at.ensures)
    (sym (c.has_room.ensures c.args.key c.find-at.ensures) ∙ c.if-not-has_room.true)

pub returns-then-not-in_range : goal.returns-then-not-in_range
returns-then-not-in_range g c =
    sum_out _ _ _ _ _ _ c.in_ok-check.ensures c.sum_at-sum.result (c.sum_at-sum.ensures c.args.key c.find-at.ensures)
    (sym (c.has_room.ensures c.args.key c.find-at.ensures) ∙ c.if-not-has_room.false) (sym c.if-not-in_range.ensures)

pub put-requires : goal.put-requires
put-requires g c =
    let W = valid_sets g.K.Key.keys g.N.Coefficient.numbers g.met.K.Key.laws g.met.N.Coefficient.plus_zero c.args.zeros in
    let v = accepted-valid _ _ _ _ _ _ c.in_ok-check.ensures in (
      search rules,
      (
        laws.valid-count W c.args.s.now v,
        (laws.valid_own W c.args.s.now v, (c.find-at.ensures, sym (c.has_room.ensures c.args.key c.find-at.ensures) ∙ c.if-not-has_room.false)),
      ),
    )

pub returns : goal.returns
returns g c =
    sum_done _ _ _ _ _ _ c.in_ok-check.ensures c.sum_at-sum.result (c.sum_at-sum.ensures c.args.key c.find-at.ensures) c.put.new.s
    (sym (c.has_room.ensures c.args.key c.find-at.ensures) ∙ c.if-not-has_room.false) (sym c.if-not-in_range.ensures) c.put.ensures
