-- Counts of bits up to an even number: bits in which two numbers differ count as those of both, and a mask passes through.
-- Assumes nothing.
use mathlib.Core.Path.{◌≡◌, refl, sym, ◌∙◌, ap, ap₂}
use mathlib.Core.Bool.{true}
use Prim.Native.Nat.{ℕ, ◌+◌, ◌*◌, ◌/◌, ◌%◌, ◌<◌, min}
use native.Mathlib.Nat.{mod-lt}
use native.Mathlib.Omega.{arith}
use borrow.Author.Tests.{eqb-true}
use lib.Dec.{eqb}
use lib.Arith.{bin_ind}
use lib.Bits.{bit_and, bit_xor, differ, and_step, and_shr, and_mod, xor_step, xor_shr, xor_mod, xor_add_and}
use lib.Count.{ones_in, ones, ones_step}
use Rattle.letters.specs.Tests.{every}
use Rattle.letters.proofs.TestLaws.{every-at}

-- the bits in which two numbers differ are as many as those of both, up to an even number
pub ones_xor : (a b : ℕ) → ones (bit_xor a b) % 2 ≡ (ones a + ones b) % 2
unfolding ones ones_in
ones_xor a = bin_ind (λ (n : ℕ). (b : ℕ) → ones (bit_xor n b) % 2 ≡ (ones n + ones b) % 2) (λ b. omega arith) step a
  where
    odd : (n b x c : ℕ) → x + c * 2 ≡ n + b → x % 2 ≡ (n % 2 + b % 2) % 2
    odd n b x c s = omega arith

    go : (n b x u v w : ℕ) → u % 2 ≡ (v + w) % 2 → x ≡ (n + b) % 2 → (x + u) % 2 ≡ (n + v + (b + w)) % 2
    go n b x u v w h s = omega arith

    step : (n : ℕ) → ((b : ℕ) → ones (bit_xor (n / 2) b) % 2 ≡ (ones (n / 2) + ones b) % 2) → (b : ℕ) → ones (bit_xor n b) % 2 ≡ (ones n + ones b) % 2
    step n ih b =
        ap (λ (x : ℕ). x % 2) (ones_step (bit_xor n b) ∙ ap (λ (x : ℕ). bit_xor n b % 2 + ones x) (xor_shr n b 1))
        ∙ go (n % 2) (b % 2) (bit_xor n b % 2) _ _ _ (ih (b / 2)) (odd n b (bit_xor n b) (bit_and n b) (xor_add_and n b))
        ∙ ap₂ (λ (x y : ℕ). (x + y) % 2) (sym (ones_step n)) (sym (ones_step b))

-- the same of one bit each
bits_found : every 2 (λ x. every 2 (λ y. every 2 (λ z. eqb (min x (bit_xor y z)) (differ (bit_and x y) (bit_and x z))))) ≡ true
unfolding every
bits_found = refl

bit_and_xor : (x y z : ℕ) → x < 2 → y < 2 → z < 2 → min x (bit_xor y z) ≡ differ (bit_and x y) (bit_and x z)
bit_and_xor x y z hx hy hz =
    eqb-true _ _ (every-at 2 (λ z. eqb (min x (bit_xor y z)) (differ (bit_and x y) (bit_and x z)))
    (every-at 2 (λ y. every 2 (λ z. eqb (min x (bit_xor y z)) (differ (bit_and x y) (bit_and x z))))
    (every-at 2 (λ x. every 2 (λ y. every 2 (λ z. eqb (min x (bit_xor y z)) (differ (bit_and x y) (bit_and x z))))) bits_found x hx) y hy) z hz)

-- the bits of a in which b and c differ are those in which the bits of a in b and in c do
pub and_xor : (a b c : ℕ) → bit_and a (bit_xor b c) ≡ bit_xor (bit_and a b) (bit_and a c)
and_xor a = bin_ind (λ (n : ℕ). (b c : ℕ) → bit_and n (bit_xor b c) ≡ bit_xor (bit_and n b) (bit_and n c)) (λ b c. refl) step a
  where
    step : (n : ℕ) → ((b c : ℕ) → bit_and (n / 2) (bit_xor b c) ≡ bit_xor (bit_and (n / 2) b) (bit_and (n / 2) c)) → (b c : ℕ) → bit_and n (bit_xor b c) ≡ bit_xor (bit_and n b) (bit_and n c)
    step n ih b c =
        and_step n (bit_xor b c)
        ∙ ap₂ (λ (x y : ℕ). bit_and (n / 2) x * 2 + min (n % 2) y) (xor_shr b c 1) (xor_mod b c 1)
        ∙ ap₂ (λ (x y : ℕ). x * 2 + y) (ih (b / 2) (c / 2)) (bit_and_xor (n % 2) (b % 2) (c % 2) (mod-lt n (omega arith)) (mod-lt b (omega arith)) (mod-lt c (omega arith)))
        ∙ ap₂ (λ (x y : ℕ). x * 2 + y) (ap₂ bit_xor (sym (and_shr n b 1)) (sym (and_shr n c 1))) (ap₂ differ (sym (and_mod n b 1)) (sym (and_mod n c 1)))
        ∙ sym (xor_step (bit_and n b) (bit_and n c))
