-- `convert`: each changed term is kept, or the chain is refused with it; a valid product is not refused, and its change keeps it.
use Rattle.std.proofs.Common.{◌∙◌, sym, refl}
use Rattle.letters.specs.Matrices.{letters_of}
use Rattle.letters.specs.Answers.{other}
use Rattle.phases.proofs.ChangeLaws.{convert_record}
use Rattle.terms.specs.Chains.{convert_terms}
use Rattle.chains.specs.ChainAnswers.{convert_set}
use Rattle.chains.proofs.StepLaws.{changed, one_term, convert_term, convert-done, not_refused, key_valid}
use Rattle.chains.proofs.PassLaws.{keeping_valid, keeping_room, keeping_own, keeping_more, keeping_refused, keeping_done}
use Rattle.chains.proofs.chain.convert.Goals as goal

pub loop-x-init : goal.loop-x-init
loop-x-init c =
    let v = sym c.is_valid.ensures ∙ c.if-not-is_valid.false in
    keeping_valid (convert_term (letters_of c.args.kind) (letters_of (other c.args.kind))) (λ x w. convert_record c.args.kind x.key w) c.args.zeros c.args.s.now _ _ v c.held-x-items.ensures c.new-out.ensures

pub returns-in_err-z : goal.returns-in_err-z
returns-in_err-z c =
    let v = sym c.is_valid.ensures ∙ c.if-not-is_valid.false in
    absurd (not_refused c.in_err-z.ensures (convert-done _ _ _ (key_valid _ _ v c.held-x-items.ensures _ _ c.loop-x-test.true)))

pub keep-requires-clause-room : goal.keep-requires-clause-room
keep-requires-clause-room c = keeping_room c.loop-x.invariant c.loop-x-test.true

pub keep-requires-clause-own : goal.keep-requires-clause-own
keep-requires-clause-own c = keeping_own c.loop-x.invariant

pub loop-x-preserved : goal.loop-x-preserved
loop-x-preserved c =
    keeping_more c.loop-x.invariant c.loop-x-test.true _ _ _
    (one_term (changed _ _ _ _ _ c.in_ok-z.ensures refl c.unit_of_i-unit.ensures c.product.ensures)) c.in_ok-keep.ensures

pub returns-in_err-keep : goal.returns-in_err-keep
unfolding convert_set convert_terms
returns-in_err-keep c =
    let v = sym c.is_valid.ensures ∙ c.if-not-is_valid.false in
    rw (v, ← c.held-x-items.ensures)
    (keeping_refused c.loop-x.invariant c.loop-x-test.true _ _ _
    (one_term (changed _ _ _ _ _ c.in_ok-z.ensures refl c.unit_of_i-unit.ensures c.product.ensures)) _ _ _
    c.from_residual-in_err-keep.ensures.1 c.in_err-keep.ensures)

pub returns : goal.returns
unfolding convert_set convert_terms
returns c =
    let v = sym c.is_valid.ensures ∙ c.if-not-is_valid.false in
    rw (v, ← c.held-x-items.ensures) (keeping_done c.loop-x.invariant _ c.loop-x-test.false)
