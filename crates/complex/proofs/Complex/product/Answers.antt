-- `Complex::product` has the operations of `product_of` in its order.
use mathlib.Core.Path.{refl}
use Rattle.complex.specs.Complex.{product_of}
use Rattle.complex.proofs.Complex.product.Goals as goal

pub returns : goal.returns
unfolding product_of
returns c = refl
