-- The record of a product: which records are valid, which letters they have, and the record of given letters.
-- Document 01, `Forms that the Rust can't keep` and number 0.
use Rattle.std.specs.Prelude.{List, map, Bool, true, ◌&&◌, cond, ℕ, zero, suc, ◌-◌, max, ltb, leb, eqb, length}
use Rattle.letters.specs.Tests.{every}
use Rattle.letters.specs.Answers.{highest_letter}
use Rattle.items.specs.Lists.{at, support, padded, same_list}
use Rattle.items.specs.declared.Items.{Items}

-- the sites that a product can occupy at once, and the highest site
abbrev pub capacity : ℕ
capacity = 31

abbrev pub highest_site : ℕ
highest_site = 30

-- place i: below the count a site of at most the highest, above the site before it, with a letter from 1 to the highest; past the count zeros
unfoldable pub place_valid : ℕ → List ℕ → List ℕ → ℕ → Bool
place_valid count sites letters i =
    cond (ltb i count)
    (leb (at sites i) highest_site && leb 1 (at letters i) && leb (at letters i) highest_letter && cond (ltb i 1) true (ltb (at sites (i - 1)) (at sites i)))
    (leb (at sites i) 0 && ltb (at letters i) 1)

-- arrays of the capacity's length, as every value of the struct has them, and a count of at most that
unfoldable pub in_shape : Items → Bool
in_shape p = eqb (length p.sites) capacity && eqb (length p.letters) capacity && leb p.count capacity

-- what number 0 lets pass
unfoldable pub valid : Items → Bool
valid p = in_shape p && every capacity (place_valid p.count p.sites p.letters)

-- the letter that the first n places give to site s, 0 where none has it
unfoldable pub lookup : List ℕ → List ℕ → ℕ → ℕ → ℕ
lookup sites letters zero s = 0
lookup sites letters (suc n) s = cond (eqb (at sites n) s) (at letters n) (lookup sites letters n s)

-- the lettering of a record: the letter on site s, 0 (the identity) on a free site
unfoldable pub letter_at : Items → ℕ → ℕ
letter_at p s = lookup p.sites p.letters p.count s

-- one more than the highest occupied site, 0 for the empty product
unfoldable pub reach : Items → ℕ
reach p = cond (eqb p.count 0) 0 (suc (at p.sites (p.count - 1)))

-- one more than the highest site that either occupies
abbrev pub reach_of : Items → Items → ℕ
reach_of p q = max (reach p) (reach q)

-- the one valid record with the letters of f on the sites below span
unfoldable pub record_of : (ℕ → ℕ) → ℕ → Items
record_of f span =
    record { count = length (support f span); sites = padded capacity (support f span); letters = padded capacity (map f (support f span)) }

-- f with the letter a on the site s
abbrev pub update : (ℕ → ℕ) → ℕ → ℕ → ℕ → ℕ
update f s a t = cond (eqb t s) a (f t)

-- two records are the same
unfoldable pub same_items : Items → Items → Bool
same_items p q = eqb p.count q.count && (same_list p.sites q.sites && same_list p.letters q.letters)

-- two pairs of them, the keys of noise
abbrev pub same_key : Items × Items → Items × Items → Bool
same_key x y = same_items x.0 y.0 && same_items x.1 y.1

-- ---- the answers

-- the empty product
unfoldable pub empty_product : Items
empty_product = record_of (λ s. 0) 0
