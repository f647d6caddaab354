-- The three entries of the pair, the jump whole, the others by -1/2.
use Rattle.std.proofs.Common.{◌∙◌, ap, [], ◌∷◌}
use Rattle.contributions.specs.Values.{jump_and_halves, noise_values}
use Rattle.contributions.proofs.of_noise.Goals as goal

pub returns : goal.returns
unfolding noise_values
returns g c =
    (λ j. c.whole.ensures j ∷ c.half.ensures j ∷ c.half-2.ensures j ∷ [])
    ∙ ap (jump_and_halves g.V.Number.numbers c.args.c) c.noise_entries-e.ensures
