-- `compare_items` meets its contract: the counts decide, or else the key of the kind.
use mathlib.Core.Path.{◌≡◌, ap, ◌∙◌}
use native.Mathlib.Omega.{arith}
use Rattle.ordering.specs.Orders.{compare_items, ordering}
use Rattle.items.proofs.RecordLaws.{valid_shape}
use Rattle.ordering.proofs.OrderingLaws.{ordering_numbers, ordering_columns, first_decides, equal_numbers}
use Rattle.ordering.proofs.OrderLaws.{pauli_items, decoherence_items}
use Rattle.ordering.proofs.compare_items.Goals as goal

pub returns-then-ne : goal.returns-then-ne
unfolding compare_items
returns-then-ne c = first_decides _ _ _ (ap ordering c.cmp-counts.ensures ∙ ordering_numbers _ _) c.if-ne.ensures

pub returns-in-Pauli : goal.returns-in-Pauli
returns-in-Pauli c =
    let p = c.args.p.now.items in
    let q = c.args.q.now.items in
    let a = valid_shape p c.args.p.now.is_valid in
    let b = valid_shape q c.args.q.now.is_valid in
    let e : p.count ≡ q.count = equal_numbers _ _ _ (ap ordering c.cmp-counts.ensures ∙ ordering_numbers _ _) c.if-ne.ensures in
    pauli_items c.args.kind p q _ c.in-Pauli.is e (omega arith) (omega arith)
    (ordering_columns _ _ _ _ c.cmp.ensures c.cmp-in-Pauli.ensures c.then.ensures)

pub returns-in-Decoherence : goal.returns-in-Decoherence
returns-in-Decoherence c =
    let p = c.args.p.now.items in
    let q = c.args.q.now.items in
    let e : p.count ≡ q.count = equal_numbers _ _ _ (ap ordering c.cmp-counts.ensures ∙ ordering_numbers _ _) c.if-ne.ensures in
    decoherence_items c.args.kind p q _ c.in-Decoherence.is e c.compare_pairs.ensures
