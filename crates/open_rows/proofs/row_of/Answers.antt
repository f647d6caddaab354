-- At most two contributions of each of 64 terms and three of each of 64 pairs have room together (`says_room`).
use native.Mathlib.Omega.{arith}
use mathlib.Core.Path.{refl, sym, ◌∙◌}
use Rattle.refusal.proofs.RefusalLaws.{said_ok}
use Rattle.rows.specs.Entries.{entries_of}
use Rattle.rows.specs.Floats.{floats}
use Rattle.rows.specs.Placing.{open_row_in}
use Rattle.rows.proofs.RoomLaws.{says_room}
use Rattle.term_sets.specs.Complexes.{items_of}
use Rattle.outside_sites.proofs.AcceptedLaws.{accepted_left, accepted_right}
use Rattle.open_rows.proofs.row_of.Goals as goal

pub returns-clause-room : goal.returns-clause-room
returns-clause-room c =
    said_ok entries_of _ _ (c.row_with.ensures ∙ sym (says_room _ _ (omega (arith, c.terms_given.ensures.few, c.pairs_given.ensures.few)) refl))

pub returns-clause-given : goal.returns-clause-given
returns-clause-given c h w e f k =
    let left = c.terms_given.ensures.given h e (accepted_left (items_of h) _ k) in
    let right = c.pairs_given.ensures.given w f (accepted_right (items_of h) _ k) in
    c.row_with.ensures
    ∙ sym (says_room _ _ (omega (arith, c.terms_given.ensures.few, c.pairs_given.ensures.few)) (sym (λ j. open_row_in floats (left j) (right j))))
