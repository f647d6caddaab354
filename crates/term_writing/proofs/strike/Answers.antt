-- `strike`: the terms after the place are moved one place to the front, and the blank comes last (`struck_by`).
use Rattle.term_writing.proofs.WritingLaws.{struck_by}
use Rattle.term_writing.proofs.strike.Goals as goal

pub returns : goal.returns
returns g c =
    struck_by g.K.Key.keys g.N.Coefficient.numbers c.args.s.now c.requires.few c.requires.own c.args.at c.requires.place
    _ c.copy_within.ensures.after _ c.blank.ensures
