-- `has_room`: a key that has a place needs none, nor does zero.
use Rattle.std.proofs.Common.{◌≡◌, ◌∙◌, ◌||◌, ltb, length}
use Rattle.std.specs.Option.{is_some}
use Rattle.term_sets.specs.Sets.{held_by}
use Rattle.term_writing.proofs.WritingLaws.{room_placed, room_zero}
use Rattle.term_writing.proofs.has_room.Given as given
use Rattle.term_writing.proofs.has_room.Goals.{Joined-is_some, then-is_some, else-is_some}
use Rattle.term_writing.proofs.has_room.Goals as goal

-- whether a term more would have a place
placed : (g : given.Over) (c : Joined-is_some g) → c.if-is_some.value ≡ (is_some c.args.at || ltb (length (held_by c.args.s.now)) 64)
placed g c =
    elim c.if-is_some.branch [
      | then-is_some w ↦ w.value-is ∙ w.if-is_some.true ∙ rw (← w.if-is_some.ensures)
      | else-is_some w ↦ w.value-is ∙ rw (← w.if-is_some.ensures, w.held.ensures)
    ]

pub returns-then-held-lt-MOST_TERMS : goal.returns-then-held-lt-MOST_TERMS
returns-then-held-lt-MOST_TERMS g c =
    λ key p. c.if-held-lt-MOST_TERMS.true
    ∙ room_placed g.K.Key.keys g.N.Coefficient.numbers key (held_by c.args.s.now) c.args.at p c.args.value _ (placed g (goal.at.returns-then-held-lt-MOST_TERMS g c).Joined-is_some) c.if-held-lt-MOST_TERMS.true

pub returns-else-held-lt-MOST_TERMS : goal.returns-else-held-lt-MOST_TERMS
returns-else-held-lt-MOST_TERMS g c =
    λ key p. c.is_zero.ensures
    ∙ room_zero g.K.Key.keys g.N.Coefficient.numbers key (held_by c.args.s.now) c.args.at p c.args.value _ (placed g (goal.at.returns-else-held-lt-MOST_TERMS g c).Joined-is_some) c.if-held-lt-MOST_TERMS.false
