-- `remap_qubits`: the steps left, added to what is held, give what all give.
use Rattle.std.proofs.Common.{ℕ, List, [], ◌∷◌, map}
use Rattle.refusal.specs.Refusals.{Said}
use Rattle.complex.specs.Coefficients.{complexes}
use Rattle.items.specs.Lists.{at}
use Rattle.terms.specs.Setting.{add_all}
use Rattle.term_sets.specs.Keys.{pair_keys}
use Rattle.term_writing.proofs.ChainLaws.{Remaining}
use Rattle.noise_sets.specs.Pairs.{NoiseTerm, NoiseSet, pair_terms, held_by}
use Rattle.noise_remapping.specs.RemapAnswers.{remap_step}
use Rattle.noise_remapping.proofs.remap_qubits.Given as goal

-- what the chain gives
abbrev pub wanted : (ℕ → ℕ) → NoiseSet → Said (List NoiseTerm)
wanted t s = add_all pair_terms (map (remap_step t) (held_by s)) []

-- a step for each term
abbrev pub one_step : (ℕ → ℕ) → NoiseTerm → List (Said NoiseTerm)
one_step t x = remap_step t x ∷ []

abbrev pub invariant-loop-x : goal.invariant-loop-x
invariant-loop-x l =
    let t = at l.targets in
    Remaining pair_keys complexes (wanted t l.s) (one_step t) l.x-items l.x-index [] (held_by l.sum.set)
