-- `put`: the four cases of a write, by whether the key has a place and whether the coefficient is zero.
use Rattle.std.proofs.Common.{arith, ◌∙◌, sym}
use Rattle.term_writing.proofs.WritingLaws.{struck_write, replaced_write, free_write, free_place, appended_write}
use Rattle.term_writing.proofs.put.Goals as goal

pub listed-in-None-false : goal.listed-in-None-false
listed-in-None-false g c =
    let m = free_place g.K.Key.keys g.N.Coefficient.numbers c.args.s.now c.requires.few c.requires.own c.args.key c.args.value
    (rw c.in-None-false.is-0 at c.requires.place) (sym c.in-None-false.ensures) c.requires.room in
    omega arith

pub bounds-s-count : goal.bounds-s-count
bounds-s-count g c =
    free_place g.K.Key.keys g.N.Coefficient.numbers c.args.s.now c.requires.few c.requires.own c.args.key c.args.value
    (rw c.in-None-false.is-0 at c.requires.place) (sym c.in-None-false.ensures) c.requires.room

pub returns-in-Some-true : goal.returns-in-Some-true
returns-in-Some-true g c =
    c.strike.ensures
    ∙ struck_write g.K.Key.keys g.N.Coefficient.numbers c.args.s.now c.requires.few c.requires.own c.args.key c.args.value
    c.in-Some-true.i (rw c.in-Some-true.is-0 at c.requires.place) (sym c.in-Some-true.ensures)

pub returns-in-Some-false : goal.returns-in-Some-false
returns-in-Some-false g c =
    replaced_write g.K.Key.keys g.N.Coefficient.numbers c.args.s.now c.requires.few c.requires.own c.args.key c.args.value
    c.in-Some-false.i (rw c.in-Some-false.is-0 at c.requires.place) (sym c.in-Some-false.ensures)

pub returns-in-None-true : goal.returns-in-None-true
returns-in-None-true g c =
    free_write g.K.Key.keys g.N.Coefficient.numbers c.args.s.now c.requires.few c.requires.own c.args.key c.args.value
    (rw c.in-None-true.is-0 at c.requires.place) (sym c.in-None-true.ensures)

pub returns-in-None-false : goal.returns-in-None-false
returns-in-None-false g c =
    let z = sym c.in-None-false.ensures in
    let p = rw c.in-None-false.is-0 at c.requires.place in
    appended_write g.K.Key.keys g.N.Coefficient.numbers c.args.s.now c.requires.few c.requires.own c.args.key c.args.value p z
    (free_place g.K.Key.keys g.N.Coefficient.numbers c.args.s.now c.requires.few c.requires.own c.args.key c.args.value p z c.requires.room)
