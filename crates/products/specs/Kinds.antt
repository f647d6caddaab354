-- What the answers on products say, for any kind of letters.
use Rattle.std.specs.Prelude.{ℕ, Result}
use Rattle.refusal.specs.Refusals.{Said, gives, refuses, said_by, told_by}
use Rattle.refusal.specs.declared.Refusal.{Refusal}
use Rattle.complex.specs.Complex.{unit_of_I}
use Rattle.complex.specs.declared.Complex.{Complex}
use Rattle.items.specs.declared.Items.{Items}
use Rattle.products.specs.declared.Product.{Product}
use Rattle.products.specs.declared.WithPower.{WithPower}
use Rattle.products.specs.declared.ProductEntry.{ProductEntry}

-- with the record that the caller then has: the answer's, or, refused, the one before
abbrev pub told_product : {K : Type 0} → Items → Result (Product K) Refusal → Said Unit × Items
told_product before r = told_by before (λ p. p.items) r

-- beside a refusal the power of i is 0
abbrev pub told_power : {K : Type 0} → Items → Result (WithPower K) Refusal → Said Unit × (ℕ × Items)
told_power before r = told_by (0, before) (λ x. (x.power, x.product.items)) r

-- ---- the row of a decoherence product

-- the power of i at a column, as a complex factor
abbrev pub as_complex : Said (ℕ × ℕ) → Said (ℕ × Complex)
as_complex (gives x) = gives (x.0, unit_of_I x.1)
as_complex (refuses k s) = refuses k s

abbrev pub said_product_row : Result ProductEntry Refusal → Said (ℕ × Complex)
said_product_row r = said_by (λ e. (e.column, e.factor)) r
