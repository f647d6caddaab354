-- What an answer about an operator says determines it: the reading that the contracts name is one to one.
-- Assumes nothing.
use Rattle.refusal.proofs.RefusalLaws.{OneToOne, told_by_known}
use Rattle.term_sets.specs.Complexes.{TermSet}
use Rattle.operators.specs.Kinds.{told_operator}
use Rattle.operators.specs.declared.Operator.{Operator}

-- the kind of letters is in the type alone
terms_known : {K : Type 0} → OneToOne (λ (o : Operator K). o.terms)
terms_known v w e = λ j. record { terms = e j; letters = record {} }

pub operator_known : {K : Type 0} (before : TermSet) → OneToOne (told_operator {K = K} before)
operator_known before = told_by_known before (λ o. o.terms) terms_known
