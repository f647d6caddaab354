-- Keys that are a number each: every one is good, and 0 stands past a set's count.
use Rattle.std.specs.Prelude.{true, eqb}
use Rattle.refusal.specs.Refusals.{done}
use Rattle.term_sets.specs.Keys.{Keys}
use Rattle.callers.specs.declared.label.Label.{Label}

abbrev pub label_keys : Keys Label
label_keys =
    record {
      same = λ x y. eqb x.number y.number;
      good = λ x. true;
      blank = record { number = 0 };
      said_of = λ x. done;
      number_of = λ x. x.number;
      masks_of = λ x. record { left = x.number; right = 0 };
    }
