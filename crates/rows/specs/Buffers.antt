-- The delivery of a row into three lent buffers: over any numbers of two parts, and in f64.
use Rattle.std.specs.Prelude.{ℕ, Bool, ◌&&◌, cond, Result, List, ◌++◌, leb, length, drop, Float}
use Rattle.refusal.specs.Refusals.{Said, said_by}
use Rattle.refusal.specs.declared.Refusal.{Refusal}
use Rattle.complex.specs.declared.Complex.{Complex}

-- the most contributions: 2 of each of 64 terms of a Hamiltonian and 3 of each of 64 pairs of noise
abbrev pub most_entries : ℕ
most_entries = 320

-- numbers N of a real and an imaginary part of type X
pub record TwoParts (N X : Type 0) : Type 0 where
  pub re : N → X
  pub im : N → X

-- f64
abbrev pub float_parts : TwoParts Complex Float
float_parts = record { re = λ z. z.re; im = λ z. z.im }

-- ---- delivery: "places past the count keep what they had"; 10 "a lent buffer shorter than the row's entries"

abbrev pub room_for : {X : Type 0} → ℕ → List ℕ → List X → List X → Bool
room_for n a b c = leb n (length a) && (leb n (length b) && leb n (length c))

-- s in front of what was there, where there is room
abbrev pub laid : {X : Type 0} → Bool → List X → List X → List X
laid room s old = cond room (s ++ drop (length s) old) old

abbrev pub said_delivery : Result ℕ Refusal → Said ℕ
said_delivery r = said_by (λ n. n) r
