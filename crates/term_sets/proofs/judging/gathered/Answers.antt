-- Of one term more, masks and coefficient come last (`map_more`).
use native.Mathlib.Omega.{arith}
use Prim.Native.Nat.{◌+◌}
use mathlib.Core.Path.{◌≡◌, sym, ap, ◌∙◌}
use mathlib.Core.List.{[], ◌∷◌, ◌++◌}
use lib.ListN.{get_or}
use Rattle.std.proofs.lemmas.List.{get_or-map}
use Rattle.terms.proofs.KeyedLaws.{map_more}
use Rattle.term_sets.specs.Sets.{masked_term}
use Rattle.term_sets.specs.declared.masks.Masks.{Masks}
use Rattle.term_sets.proofs.judging.gathered.Goals as goal

pub loop-i-preserved : goal.loop-i-preserved
loop-i-preserved g c =
    let k = g.K.Key.keys in
    let n = g.N.Coefficient.numbers in
    let t = c.index-terms-i.result in
    let none : Masks = record { left = 0; right = 0 } in
    let p =
    ap (λ m. get_or m c.loop-i.i none) c.loop-i.invariant.masks
    ∙ get_or-map (λ y. k.masks_of y.key) c.args.terms.now c.loop-i.i t none (omega arith) in
    let one : record { masks = get_or c.masks-masks.result.now c.loop-i.i none; coefficient = t.coefficient } ≡ masked_term k n (get_or c.args.terms.now c.loop-i.i t) =
    λ q. record { masks = p q; coefficient = (c.index-terms-i.is q).coefficient } in
    record {
      masks = c.loop-i.invariant.masks;
      long = c.push.ensures.len ∙ ap (λ m. m + 1) c.loop-i.invariant.long;
      gathered =
          c.push.ensures.items
          ∙ (λ q. c.loop-i.invariant.gathered q ++ one q ∷ [])
          ∙ sym (map_more (masked_term k n) c.args.terms.now c.loop-i.i t c.loop-i-test.true);
    }
