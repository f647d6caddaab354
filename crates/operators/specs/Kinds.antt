-- What the answers on operators say, for any kind of letters.
use Rattle.std.specs.Prelude.{Bool, true, false, Result}
use Rattle.refusal.specs.Refusals.{Said, told_by}
use Rattle.refusal.specs.declared.Refusal.{Refusal}
use Rattle.letters.specs.declared.Kind.{Kind}
use Rattle.letters.specs.declared.Kind.TheVariants.{Pauli, Decoherence}
use Rattle.term_sets.specs.Complexes.{TermSet}
use Rattle.operators.specs.declared.Operator.{Operator}

-- "Only this makes an operator hold zeros": `PauliOperator` times a number
abbrev pub holds_zeros : Kind → Bool
holds_zeros Pauli = true
holds_zeros Decoherence = false

-- with the terms of the operator that the caller then has: the answer's, or, refused, those before
abbrev pub told_operator : {K : Type 0} → TermSet → Result (Operator K) Refusal → Said Unit × TermSet
told_operator before r = told_by before (λ s. s.terms) r
