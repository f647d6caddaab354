-- The laws of keys that the two kinds bring along: proved here, since an `impl` cites them.
use Rattle.std.specs.Prelude.{◌≡◌, ◌&&◌, ◌||◌, Bool, true, false, not, cond, []}
use mathlib.Core.Path.{refl, sym, subst}
use Rattle.letters.proofs.TestLaws.{and_true, and_left, and_right}
use Rattle.refusal.specs.Refusals.{refuses, done}
use Rattle.items.specs.Record.{valid, same_items, same_key}
use Rattle.items.specs.Masks.{masks_of}
use Rattle.items.specs.declared.Items.{Items}
use Rattle.items.proofs.MaskKeys.{masks_same}
use Rattle.items.proofs.SameLaws.{same_self, same-equal, same_key_self, same_key-equal}
use Rattle.term_sets.specs.Keys.{Key, KeyLaws, item_keys, is_empty, valid_key, empty_side, good_key, pair_keys}

-- ---- products

-- valid products with the same masks are the same
products_apart : (p q : Items) → valid p ≡ true → valid q ≡ true → masks_of q ≡ masks_of p → same_items p q ≡ true
products_apart p q v w e = subst (λ (x : Items). same_items p x ≡ true) (masks_same p q v w (sym e)) (same_self p)

product_accepted : (p : Items) → cond (valid p) done (refuses 0 []) ≡ done → valid p ≡ true
product_accepted p e = go (valid p) refl e
  where
    go : (b : Bool) → valid p ≡ b → cond b done (refuses 0 []) ≡ done → b ≡ true
    go true h e = refl
    go false h e = cc

pub item_laws : KeyLaws item_keys
item_laws =
    record {
      itself = same_self;
      equal = same-equal;
      told_apart = λ p q v w e. products_apart p q v w (λ j. (e j).left);
      accepted = product_accepted;
    }

-- ---- pairs of products

pair_apart : (k m : Key) → good_key k ≡ true → good_key m ≡ true → masks_of m.0 ≡ masks_of k.0 → masks_of m.1 ≡ masks_of k.1 → same_key k m ≡ true
pair_apart k m g h d e =
    let v = and_left (valid_key k) (not (is_empty k.0) && not (is_empty k.1)) g in
    let w = and_left (valid_key m) (not (is_empty m.0) && not (is_empty m.1)) h in
    and_true
    (products_apart k.0 m.0 (and_left (valid k.0) (valid k.1) v) (and_left (valid m.0) (valid m.1) w) d)
    (products_apart k.1 m.1 (and_right (valid k.0) (valid k.1) v) (and_right (valid m.0) (valid m.1) w) e)

-- an entry lets a pair pass that has no empty side
pair_accepted : (k : Key) → cond (valid_key k) (cond (empty_side k) (refuses 4 []) done) (refuses 0 []) ≡ done → good_key k ≡ true
pair_accepted k e = go (valid_key k) (is_empty k.0) (is_empty k.1) e
  where
    go : (v a b : Bool) → cond v (cond (a || b) (refuses 4 []) done) (refuses 0 []) ≡ done → (v && (not a && not b)) ≡ true
    go true false false e = refl
    go true true b e = cc
    go true false true e = cc
    go false a b e = cc

pub pair_laws : KeyLaws pair_keys
pair_laws =
    record {
      itself = same_key_self;
      equal = same_key-equal;
      told_apart = λ k m g h e. pair_apart k m g h (λ j. (e j).left) (λ j. (e j).right);
      accepted = pair_accepted;
    }
