-- `keep`: another coefficient's term comes last (`filled_more`).
use Rattle.std.proofs.Common.{◌∙◌, ap, sym}
use Rattle.refusal.specs.Refusals.{done}
use Rattle.complex.specs.Complex.{sum_of}
use Rattle.complex.specs.declared.Complex.{Complex}
use Rattle.term_sets.specs.Complexes.{TermSet}
use Rattle.chains.specs.ChainAnswers.{keep_term}
use Rattle.chains.proofs.PassLaws.{filled_more}
use Rattle.chains.proofs.chain.keep.Goals as goal

pub returns : goal.returns
unfolding keep_term
returns c =
    let sum = c.sum-sum.ensures ∙ ap (λ (x : Complex). sum_of x c.args.value) c.zero.ensures in
    let other = sym c.is_zero.ensures ∙ c.if-is_zero.false in
    let fits = sym c.in_range.ensures ∙ c.if-not-in_range.false in
    rw (← sum, other, fits) (ap (λ (s : TermSet). (done, s)) (filled_more c.args.out.now _ c.requires.room c.requires.own))
