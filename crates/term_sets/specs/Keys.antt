-- What the definitions on sets take of keys: products, and pairs of products.
-- Document 01, pauli_noise_operator.rs: "A key is a pair (L, R) of decoherence products, neither empty", and number 0.
use Rattle.std.specs.Prelude.{◌≡◌, ℕ, ◌+◌, ◌*◌, ◌%◌, ◌^◌, Bool, true, not, ◌&&◌, ◌||◌, cond, [], eqb}
use Rattle.refusal.specs.Refusals.{Said, refuses, done}
use Rattle.items.specs.Record.{valid, same_items, same_key, empty_product}
use Rattle.items.specs.Masks.{masks_of}
use Rattle.items.specs.declared.Items.{Items}
use Rattle.term_sets.specs.declared.masks.Masks.{Masks}

pub record Keys (K : Type 0) : Type 0 where
  -- whether two keys are the same
  pub same : K → K → Bool
  -- whether a held term may have the key
  pub good : K → Bool
  -- the key of what stands past the count
  pub blank : K
  -- what an entry says of a key that it is given
  pub said_of : K → Said Unit
  -- a number that the same keys share, and masks that tell good keys apart
  pub number_of : K → ℕ
  pub masks_of : K → Masks

pub record KeyLaws {K : Type 0} (k : Keys K) : Type 0 where
  pub itself : (x : K) → k.same x x ≡ true
  pub equal : (x y : K) → k.same x y ≡ true → x ≡ y
  pub told_apart : (x y : K) → k.good x ≡ true → k.good y ≡ true → k.masks_of y ≡ k.masks_of x → k.same x y ≡ true
  pub accepted : (x : K) → k.said_of x ≡ done → k.good x ≡ true

-- ---- products

abbrev pub items_masks : Items → Masks
items_masks p = record { left = masks_of p; right = 0 }

abbrev pub item_keys : Keys Items
item_keys =
    record {
      same = same_items;
      good = valid;
      blank = empty_product;
      said_of = λ p. cond (valid p) done (refuses 0 []);
      number_of = masks_of;
      masks_of = items_masks;
    }

-- ---- pairs of products

-- a pair of products
abbrev pub Key : Type 0
Key = Items × Items

-- a product without sites
abbrev pub is_empty : Items → Bool
is_empty p = eqb p.count 0

-- both products of a key are valid
abbrev pub valid_key : Key → Bool
valid_key k = valid k.0 && valid k.1

-- 4: "empty side"
abbrev pub empty_side : Key → Bool
empty_side k = is_empty k.0 || is_empty k.1

-- a key of a held term: two valid products, neither empty
abbrev pub good_key : Key → Bool
good_key k = (valid k.0 && valid k.1) && (not (is_empty k.0) && not (is_empty k.1))

-- the number of a key, from the masks of its products: each is taken below 2^62, so that the number of two fits
unfoldable pub pair_number : Key → ℕ
pair_number k = masks_of k.0 % 2 ^ 62 + 3 * (masks_of k.1 % 2 ^ 62)

abbrev pub pair_keys : Keys Key
pair_keys =
    record {
      same = same_key;
      good = good_key;
      blank = (empty_product, empty_product);
      said_of = λ k. cond (valid_key k) (cond (empty_side k) (refuses 4 []) done) (refuses 0 []);
      number_of = pair_number;
      masks_of = λ k. record { left = masks_of k.0; right = masks_of k.1 };
    }
