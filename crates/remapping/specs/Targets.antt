-- What moving letters to other sites answers, refusals first in the order of their numbers. Document 01: pauli_product.rs,
-- decoherence_product.rs and `Numbers of the no`. Beside a refusal stands the record given.
use Rattle.std.specs.Prelude.{[], ◌∷◌, map, Bool, not, cond, ℕ, zero, suc, max, min, ltb, leb, eqb}
use Rattle.refusal.specs.Refusals.{Said, refuses, done}
use Rattle.letters.specs.Tests.{every, first_from}
use Rattle.items.specs.Lists.{at}
use Rattle.items.specs.Record.{highest_site, valid, lookup, record_of}
use Rattle.items.specs.declared.Items.{Items}

-- one of the first n targets is u
unfoldable pub has_target : (ℕ → ℕ) → ℕ → ℕ → Bool
has_target t n u = not (every n (λ i. not (eqb (t i) u)))

-- the lowest of the first n targets that two of them share; one more than the highest site where there is none
unfoldable pub lowest_shared : (ℕ → ℕ) → ℕ → ℕ
lowest_shared t zero = suc highest_site
lowest_shared t (suc n) = cond (has_target t n (t n)) (min (t n) (lowest_shared t n)) (lowest_shared t n)

-- one more than the highest of the first n targets
unfoldable pub target_reach : (ℕ → ℕ) → ℕ → ℕ
target_reach t zero = 0
target_reach t (suc n) = max (target_reach t n) (suc (t n))

-- the place of the first occupied site whose target is too high; n where there is none
unfoldable pub first_too_high : (ℕ → ℕ) → ℕ → ℕ
first_too_high t n = first_from (λ i. ltb highest_site (t i)) n 0

-- each letter moves to the target of its site; t gives the target of a site, and only the occupied sites are looked at
unfoldable pub remap_answer : (ℕ → ℕ) → Items → Said Unit × Items
remap_answer t p =
    let u : ℕ → ℕ = λ i. t (at p.sites i) in
    let n = p.count in
    cond (not (valid p)) (refuses 0 [], p)
    (cond (ltb (first_too_high u n) n) (refuses 1 (u (first_too_high u n) ∷ []), p)
    (cond (leb (lowest_shared u n) highest_site) (refuses 3 (lowest_shared u n ∷ []), p)
    (done, record_of (lookup (map t p.sites) p.letters n) (target_reach u n))))
