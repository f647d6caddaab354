-- What an answer says, with the record that its caller then has: the answer's, or, refused, the one handed in.
use Rattle.std.specs.Prelude.{ℕ, Result}
use Rattle.refusal.specs.Refusals.{Said, told_by}
use Rattle.refusal.specs.declared.Refusal.{Refusal}
use Rattle.items.specs.declared.Items.{Items}
use Rattle.items.specs.declared.ScaledItems.{ScaledItems}

abbrev pub told : Items → Result Items Refusal → Said Unit × Items
told before r = told_by before (λ p. p) r

-- beside a refusal the power of i is 0
abbrev pub told_power : Items → Result ScaledItems Refusal → Said Unit × (ℕ × Items)
told_power before r = told_by (0, before) (λ x. (x.power, x.items)) r
