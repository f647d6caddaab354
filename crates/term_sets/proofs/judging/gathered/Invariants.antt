-- Of the terms below i, masks and coefficients are there.
use mathlib.Core.Path.{◌≡◌}
use mathlib.Core.List.{map}
use lib.ListN.{length, take}
use Rattle.term_sets.specs.Sets.{masked_term}
use Rattle.term_sets.proofs.judging.gathered.Given as goal

abbrev pub invariant-loop-i : goal.invariant-loop-i
invariant-loop-i g l =
    let k = g.K.Key.keys in
    record {
      masks : l.masks ≡ map (λ t. k.masks_of t.key) l.terms;
      long : length l.out.items ≡ l.i;
      gathered : l.out.items ≡ map (masked_term k g.N.Coefficient.numbers) (take l.i l.terms);
    }
