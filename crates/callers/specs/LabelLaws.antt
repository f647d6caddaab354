-- The laws of these keys: proved here, since an `impl` cites them.
use mathlib.Core.Path.{refl, sym}
use borrow.Author.Tests.{eq-eqb, eqb-true}
use Rattle.term_sets.specs.Keys.{KeyLaws}
use Rattle.callers.specs.Labels.{label_keys}

pub label_laws : KeyLaws label_keys
label_laws =
    record {
      itself = λ x. eq-eqb x.number x.number refl;
      equal = λ x y e j. record { number = eqb-true x.number y.number e j };
      told_apart = λ x y g h e. eq-eqb x.number y.number (sym (λ j. (e j).left));
      accepted = λ x e. refl;
    }
