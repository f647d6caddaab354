-- The terms below i are gathered with complex coefficients (`Gathered`).
use Rattle.std.proofs.Common.{length}
use Rattle.terms.proofs.GatherLaws.{Gathered}
use Rattle.term_sets.specs.Complexes.{blank}
use Rattle.hamiltonians.specs.Reals.{complex_term}
use Rattle.hamiltonians.proofs.PauliHamiltonian.complex_terms.Given as goal

abbrev pub invariant-loop-i : goal.invariant-loop-i
invariant-loop-i l = Gathered complex_term blank (length l.held) l.held l.out.terms l.i
