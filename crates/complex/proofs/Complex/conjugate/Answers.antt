-- `Complex::conjugate` negates the imaginary part, as `conjugate_of` does.
use mathlib.Core.Path.{refl}
use Rattle.complex.specs.Complex.{conjugate_of}
use Rattle.complex.proofs.Complex.conjugate.Goals as goal

pub returns : goal.returns
unfolding conjugate_of
returns c = refl
