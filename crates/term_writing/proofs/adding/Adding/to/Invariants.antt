-- `to`: the first i terms are copied, and their numbers are written.
use Rattle.std.proofs.Common.{◌≡◌, ◌++◌, length, take, drop, map}
use Rattle.term_writing.proofs.adding.Adding.to.Given as goal

abbrev pub invariant-loop-i : goal.invariant-loop-i
invariant-loop-i g l =
    record {
      terms : l.set.terms ≡ take l.i l.held ++ drop l.i l.initial.set.terms;
      long : length l.numbers ≡ 64;
      numbered : take l.i l.numbers ≡ map (λ t. g.K.Key.keys.number_of t.key) (take l.i l.held);
    }
