-- The two entries of the product, each whole.
use Rattle.std.proofs.Common.{◌∙◌, ap, [], ◌∷◌, map}
use Rattle.contributions.specs.Values.{whole_entry, commutator_values}
use Rattle.contributions.proofs.of_commutator.Goals as goal

pub returns : goal.returns
unfolding commutator_values
returns g c =
    (λ j. c.whole.ensures j ∷ c.whole-2.ensures j ∷ [])
    ∙ ap (map (whole_entry g.V.Number.numbers c.args.c)) c.commutator_entries-e.ensures
