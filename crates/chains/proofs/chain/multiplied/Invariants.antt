-- `multiplied`: the pairs left, added to what is held, give what all give: in the row of the left term at hand, then in later rows.
use Rattle.std.proofs.Common.{List, [], ◌++◌, ◌+◌, drop}
use Rattle.refusal.specs.Refusals.{Said}
use Rattle.complex.specs.Coefficients.{complexes}
use Rattle.letters.specs.Matrices.{Letters, letters_of}
use Rattle.terms.specs.Keyed.{concat_map}
use Rattle.terms.specs.Setting.{add_all}
use Rattle.term_sets.specs.Complexes.{Term, TermSet, held_by, complex_terms}
use Rattle.term_sets.specs.Keys.{item_keys}
use Rattle.term_writing.proofs.ChainLaws.{Remaining}
use Rattle.chains.specs.ChainAnswers.{product_steps}
use Rattle.chains.proofs.StepLaws.{product_step, product_row}
use Rattle.chains.proofs.chain.multiplied.Given as goal

-- what the chain gives
abbrev pub wanted : Letters → TermSet → TermSet → Said (List Term)
wanted M s t = add_all complex_terms (product_steps M (held_by s) (held_by t)) []

abbrev pub invariant-loop-y : goal.invariant-loop-y
invariant-loop-y l =
    let M = letters_of l.kind in
    Remaining item_keys complexes (wanted M l.s l.t) (product_step M l.x) l.y-items l.y-index
    (concat_map (product_row M (held_by l.t)) (drop (l.x-index + 1) l.x-items) ++ []) (held_by l.sum.set)

abbrev pub invariant-loop-x : goal.invariant-loop-x
invariant-loop-x l =
    let M = letters_of l.kind in
    Remaining item_keys complexes (wanted M l.s l.t) (product_row M (held_by l.t)) l.x-items l.x-index [] (held_by l.sum.set)
