-- The terms below the index are good, and their masks, all different, are those seen (`Fingerprinted`).
use mathlib.Core.Path.{◌≡◌}
use lib.ListN.{length}
use Rattle.terms.proofs.FingerprintLaws.{Fingerprinted}
use Rattle.term_sets.specs.Sets.{good_term}
use Rattle.term_sets.proofs.judging.judged_terms.Given as goal

abbrev pub invariant-loop-t : goal.invariant-loop-t
invariant-loop-t g l =
    let k = g.K.Key.keys in
    record {
      counted : length l.seen.masks.items ≡ l.t-index;
      judged : Fingerprinted (good_term k g.N.Coefficient.numbers l.zeros) (λ t. k.masks_of t.key) l.terms l.seen.masks.items l.t-index;
    }
