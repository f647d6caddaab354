-- One term more is gathered (`gathered_more`); at the end all are, and they make the set that holds them.
use Rattle.std.proofs.Common.{arith, ap, ◌∙◌, [], List, map, length, length-take, take}
use Rattle.std.proofs.Math.Seq.{take_all}
use Rattle.terms.proofs.CopyLaws.{take-held}
use Rattle.terms.proofs.FilledLaws.{filled_by, filled-places}
use Rattle.terms.proofs.GatherLaws.{gathered_none, gathered_more, gathered_done, gathered_count}
use Rattle.term_sets.specs.Complexes.{TermSet, term_of, filled}
use Rattle.term_sets.proofs.SetLaws.{term_sets}
use Rattle.hamiltonians.specs.Reals.{RealTerm, complex_term}
use Rattle.hamiltonians.proofs.PauliHamiltonian.complex_terms.Goals as goal

pub loop-i-init : goal.loop-i-init
loop-i-init c =
    let few = length-take c.min.result c.places.result.now in
    gathered_none (omega arith) (omega arith) (ap (λ (s : TermSet). s.terms) c.new-out.ensures ∙ filled-places term_sets [])

pub loop-i-preserved : goal.loop-i-preserved
loop-i-preserved c = gathered_more _ c.loop-i.invariant c.loop-i-test.true (ap (term_of _) c.from.ensures)

pub returns : goal.returns
returns c =
    let l = take c.min.result c.places.result.now in
    let all = take_all (length l) l (omega arith) in
    let held = take-held c.places.result.now c.args.self.now.terms.count (ap length c.places.ensures.0 ∙ c.places.ensures.1) (omega arith) ∙ ap (take c.args.self.now.terms.count) c.places.ensures.0 in
    filled_by term_sets _ _ (gathered_count c.loop-i.invariant) (gathered_done c.loop-i.invariant c.loop-i-test.false)
    ∙ ap (λ (m : List RealTerm). filled (map complex_term m)) (all ∙ held)
