-- `add`: the numbers go with the terms (`numbered-struck` and the like), and what is held is what is written.
use Rattle.std.proofs.Common.{◌∙◌, ap, sym, subst, List, ℕ, length}
use Rattle.terms.proofs.FilledLaws.{held-from}
use Rattle.term_sets.proofs.SetLaws.{sets}
use Rattle.term_writing.specs.Numbered.{Numbered}
use Rattle.term_writing.proofs.EntryLaws.{step_full, step_done}
use Rattle.term_writing.proofs.WritingLaws.{free_place}
use Rattle.term_writing.proofs.NumberLaws.{numbered-struck, numbered-replaced, numbered-free, numbered-last}
use Rattle.term_writing.proofs.adding.Adding.add.Goals.{in-Some-true, in-Some-false, in-None-true, in-None-false}
use Rattle.term_writing.proofs.adding.Adding.add.Goals as goal

pub returns-then-not-has_room : goal.returns-then-not-has_room
returns-then-not-has_room g c =
    step_full _ _ _ _ _ _ (c.sum_at-sum.ensures c.args.key c.find-at.ensures)
    (sym (c.has_room.ensures c.args.key c.find-at.ensures) ∙ c.if-not-has_room.true)

pub bounds-self-count : goal.bounds-self-count
bounds-self-count g c =
    let n = c.args.self.now.numbered in
    free_place g.K.Key.keys g.N.Coefficient.numbers c.args.self.now.set n.few n.own c.args.key c.sum_at-sum.result
    (rw c.in-None-false.is-0 at c.find-at.ensures) (sym c.in-None-false.ensures)
    (sym (c.has_room.ensures c.args.key c.find-at.ensures) ∙ c.if-not-has_room.false)

pub invariant_of-self : goal.invariant_of-self
invariant_of-self g c =
    let k = g.K.Key.keys in
    let n = g.N.Coefficient.numbers in
    let laws = g.met.K.Key.laws in
    let old = c.args.self.now in
    let room = sym (c.has_room.ensures c.args.key c.find-at.ensures) ∙ c.if-not-has_room.false in
    record {
      numbered = elim c.match-at.branch [
        | in-Some-true w ↦
            let is = ap (λ z. z.1.1.0) w.self-is in
            numbered-struck k n laws old.set old.numbers old.numbered c.args.key c.sum_at-sum.result room c.put.new.s c.put.ensures
            w.in-Some-true.i (rw w.in-Some-true.is-0 at c.find-at.ensures) (sym w.in-Some-true.ensures)
            c.match-at.self.1.1.0 (is ∙ w.copy_within.ensures.after) (ap length is ∙ w.copy_within.ensures.len)
        | in-Some-false w ↦
            subst (λ (x : List ℕ). Numbered k n c.put.new.s x) (sym (ap (λ z. z.1.1.0) w.self-is))
            (numbered-replaced k n laws old.set old.numbers old.numbered c.args.key c.sum_at-sum.result room c.put.new.s c.put.ensures
            _ (rw w.in-Some-false.is-0 at c.find-at.ensures) (sym w.in-Some-false.ensures))
        | in-None-true w ↦
            subst (λ (x : List ℕ). Numbered k n c.put.new.s x) (sym (ap (λ z. z.1.1.0) w.self-is))
            (numbered-free k n laws old.set old.numbers old.numbered c.args.key c.sum_at-sum.result room c.put.new.s c.put.ensures
            (rw w.in-None-true.is-0 at c.find-at.ensures) (sym w.in-None-true.ensures))
        | in-None-false w ↦
            let free = rw w.in-None-false.is-0 at c.find-at.ensures in
            let other = sym w.in-None-false.ensures in
            subst (λ (x : List ℕ). Numbered k n c.put.new.s x) (sym (ap (λ z. z.1.1.0) w.self-is))
            (numbered-last k n laws old.set old.numbers old.numbered c.args.key c.sum_at-sum.result room c.put.new.s c.put.ensures
            free other (free_place k n old.set old.numbered.few old.numbered.own c.args.key c.sum_at-sum.result free other room) c.number-number.result c.number-number.ensures)
      ];
    }

pub returns : goal.returns
returns g c =
    step_done _ _ _ _ _ _ (c.sum_at-sum.ensures c.args.key c.find-at.ensures)
    (sym (c.has_room.ensures c.args.key c.find-at.ensures) ∙ c.if-not-has_room.false) _
    (held-from (sets g.K.Key.keys g.N.Coefficient.numbers) c.put.new.s _ c.put.ensures)
