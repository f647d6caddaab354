-- The readings of the answers on products are one to one: what an answer says, and the record beside it, fixes it. Assumes nothing.
use mathlib.Core.Path.{◌≡◌, refl, sym, ap, ◌∙◌}
use Prim.Native.Nat.{ℕ}
use Rattle.std.specs.declared.cmp.Ordering.{Ordering}
use Rattle.std.specs.declared.cmp.Ordering.TheVariants.{Less, Equal, Greater}
use Rattle.refusal.proofs.RefusalLaws.{OneToOne, listed_known, said_by_known, told_by_known}
use Rattle.complex.specs.declared.Complex.{Complex}
use Rattle.merging.specs.SiteAnswers.{said_got}
use Rattle.row_entries.specs.Answers.{said_row}
use Rattle.items.specs.Answers.{told, told_power}
use Rattle.ordering.specs.Orders.{Order, less, equal, greater, ordering, said_order}
use Rattle.products.specs.Kinds.{told_product, said_product_row}
use Rattle.products.specs.Kinds.{told_power as told_product_power}
use Rattle.items.specs.declared.Items.{Items}
use Rattle.items.specs.declared.ScaledItems.{ScaledItems}
use Rattle.row_entries.specs.declared.Entry.{Entry}
use Rattle.products.specs.declared.Product.{Product}
use Rattle.products.specs.declared.WithPower.{WithPower}
use Rattle.products.specs.declared.ProductEntry.{ProductEntry}

-- ---- results of their own

pub got_known : OneToOne said_got
got_known = said_by_known _ listed_known

pub row_known : OneToOne said_row
row_known = said_by_known (λ e. (e.column, e.power)) known
  where
    known : (v w : Entry) → ◌≡◌ {A = ℕ × ℕ} (v.column, v.power) (w.column, w.power) → v ≡ w
    known v w e = λ i. record { column = (e i).0; power = (e i).1 }

pub product_row_known : OneToOne said_product_row
product_row_known = said_by_known (λ e. (e.column, e.factor)) known
  where
    known : (v w : ProductEntry) → ◌≡◌ {A = ℕ × Complex} (v.column, v.factor) (w.column, w.factor) → v ≡ w
    known v w e = λ i. record { column = (e i).0; factor = (e i).1 }

pub compared_known : OneToOne said_order
compared_known = said_by_known ordering known
  where
    said : Order → Ordering
    said less = Less
    said equal = Equal
    said greater = Greater

    back : (v : Ordering) → said (ordering v) ≡ v
    back Less = refl
    back Equal = refl
    back Greater = refl

    known : (v w : Ordering) → ordering v ≡ ordering w → v ≡ w
    known v w e = sym (back v) ∙ ap said e ∙ back w

-- ---- records, the caller's where the answer is refused

pub told_known : (before : Items) → OneToOne (told before)
told_known before = told_by_known before (λ p. p) (λ v w e. e)

pub told_power_known : (before : Items) → OneToOne (told_power before)
told_power_known before = told_by_known (0, before) (λ x. (x.power, x.items)) known
  where
    known : (v w : ScaledItems) → ◌≡◌ {A = ℕ × Items} (v.power, v.items) (w.power, w.items) → v ≡ w
    known v w e = λ i. record { power = (e i).0; items = (e i).1 }

-- the kind of letters is in the type alone
product_known : {K : Type 0} → OneToOne (λ (p : Product K). p.items)
product_known v w e = λ i. record { items = e i; letters = record {} }

pub told_product_known : {K : Type 0} (before : Items) → OneToOne (told_product {K = K} before)
told_product_known before = told_by_known before (λ p. p.items) product_known

pub told_product_power_known : {K : Type 0} (before : Items) → OneToOne (told_product_power {K = K} before)
told_product_power_known {K} before = told_by_known (0, before) (λ x. (x.power, x.product.items)) known
  where
    known : (v w : WithPower K) → ◌≡◌ {A = ℕ × Items} (v.power, v.product.items) (w.power, w.product.items) → v ≡ w
    known v w e = λ i. record { power = (e i).0; product = product_known v.product w.product (ap (λ t. t.1) e) i }
