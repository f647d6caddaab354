-- What the entries on noise sets answer, refusals first in their order, 0, 4, 5, 6; and what a chain of additions ends in.
-- Document 01: pauli_noise_operator.rs and `Numbers of the no`.
use Rattle.std.specs.Prelude.{Bool, not, cond, List, []}
use Rattle.refusal.specs.Refusals.{Said, gives, refuses}
use Rattle.complex.specs.Complex.{in_range}
use Rattle.complex.specs.declared.Complex.{Complex}
use Rattle.terms.specs.Setting.{coefficient_at}
use Rattle.terms.specs.Entries.{set_in, add_in}
use Rattle.terms.specs.Entries as entries
use Rattle.term_sets.specs.Keys as keys
use Rattle.noise_sets.specs.Pairs.{Key, NoiseTerm, NoiseSet, pair_terms, held_by, filled, valid_set}

-- both products of a key are valid
abbrev pub valid_key : Key → Bool
valid_key = keys.valid_key

-- 4: "empty side"
abbrev pub empty_side : Key → Bool
empty_side = keys.empty_side

-- 4 stands before the answer also here: "given exactly if"; the Rust answers zero
unfoldable pub get_pair : NoiseSet → Key → Said Complex
get_pair s k =
    cond (not (valid_set s)) (refuses 0 [])
    (cond (not (valid_key k)) (refuses 0 [])
    (cond (empty_side k) (refuses 4 [])
    (gives (coefficient_at pair_terms k (held_by s)))))

-- the coefficient that was there before, as a list of one; none where the key was free
unfoldable pub set_pair : NoiseSet → Key → Complex → Said (List Complex) × NoiseSet
set_pair s k a =
    cond (not (valid_set s)) (refuses 0 [], s)
    (cond (not (valid_key k)) (refuses 0 [], s)
    (cond (empty_side k) (refuses 4 [], s)
    (set_in pair_terms in_range filled (λ t. t.coefficient) s (held_by s) k a)))

-- the sum of the coefficient that was there and the new one
unfoldable pub add_pair : NoiseSet → Key → Complex → Said Unit × NoiseSet
add_pair s k a =
    cond (not (valid_set s)) (refuses 0 [], s)
    (cond (not (valid_key k)) (refuses 0 [], s)
    (cond (empty_side k) (refuses 4 [], s)
    (add_in pair_terms in_range filled s (held_by s) k a)))

-- ---- the end of a chain

-- every coefficient is in range
abbrev pub all_in_range : List NoiseTerm → Bool
all_in_range = entries.all_in_range pair_terms in_range

-- what a chain ends in, judged by 5; s stands beside a refusal
abbrev pub ended : NoiseSet → Said (List NoiseTerm) → Said Unit × NoiseSet
ended = entries.ended pair_terms in_range filled
