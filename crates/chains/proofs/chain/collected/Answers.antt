-- `collected`: each term is kept, or the chain is refused with it.
use Rattle.std.proofs.Common.{◌∙◌, refl, ap, map-id, [], map}
use Rattle.refusal.specs.Refusals.{gives}
use Rattle.terms.specs.Keyed.{each}
use Rattle.terms.specs.Setting.{add_all}
use Rattle.terms.proofs.SettingLaws.{different}
use Rattle.term_sets.specs.Complexes.{complex_terms}
use Rattle.chains.specs.ChainAnswers.{ended}
use Rattle.chains.proofs.PassLaws.{keeping_none, keeping_room, keeping_own, keeping_more, keeping_refused, keeping_done}
use Rattle.chains.proofs.chain.collected.Goals as goal

pub loop-x-init : goal.loop-x-init
loop-x-init c =
    keeping_none (λ x. x) _ _ (rw c.held-x-items.ensures c.requires.few)
    (ap (each (different complex_terms)) (map-id c.held-x-items.result.now ∙ c.held-x-items.ensures) ∙ c.requires.differ) c.new-out.ensures

pub keep-requires-clause-room : goal.keep-requires-clause-room
keep-requires-clause-room c = keeping_room c.loop-x.invariant c.loop-x-test.true

pub keep-requires-clause-own : goal.keep-requires-clause-own
keep-requires-clause-own c = keeping_own c.loop-x.invariant

pub loop-x-preserved : goal.loop-x-preserved
loop-x-preserved c = keeping_more c.loop-x.invariant c.loop-x-test.true _ _ _ refl c.in_ok-keep.ensures

pub returns-in_err-keep : goal.returns-in_err-keep
returns-in_err-keep c =
    λ back.
    keeping_refused c.loop-x.invariant c.loop-x-test.true _ _ _ refl back _ _ c.from_residual.ensures.1 c.in_err-keep.ensures
    ∙ ap (λ l. ended back (add_all complex_terms (map gives l) [])) (map-id _ ∙ c.held-x-items.ensures)

pub returns : goal.returns
returns c =
    λ back.
    keeping_done c.loop-x.invariant back c.loop-x-test.false
    ∙ ap (λ l. ended back (add_all complex_terms (map gives l) [])) (map-id _ ∙ c.held-x-items.ensures)
