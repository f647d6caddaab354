-- `add_full`: the pairs left, added to what is held, give what all give: in the row of the left term at hand, then in later rows.
use Rattle.std.proofs.Common.{[], ◌+◌, ◌++◌, drop}
use Rattle.complex.specs.Coefficients.{complexes}
use Rattle.terms.specs.Keyed.{concat_map}
use Rattle.term_sets.specs.Complexes as operators
use Rattle.term_sets.specs.Keys.{pair_keys}
use Rattle.term_writing.proofs.ChainLaws.{Remaining}
use Rattle.noise_sets.specs.Pairs.{held_by}
use Rattle.full_operators.proofs.PairLaws.{wanted, pair_steps, pair_row}
use Rattle.full_operators.proofs.add_full.Given as goal

abbrev pub invariant-loop-y : goal.invariant-loop-y
invariant-loop-y l =
    Remaining pair_keys complexes (wanted l.s l.left.terms l.right.terms l.value) (pair_steps l.value l.x) l.y-items l.y-index
    (concat_map (pair_row l.value (operators.held_by l.right.terms)) (drop (l.x-index + 1) l.x-items) ++ [])
    (held_by l.sum.set)

abbrev pub invariant-loop-x : goal.invariant-loop-x
invariant-loop-x l =
    Remaining pair_keys complexes (wanted l.s l.left.terms l.right.terms l.value) (pair_row l.value (operators.held_by l.right.terms)) l.x-items l.x-index []
    (held_by l.sum.set)
