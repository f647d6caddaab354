-- The reading of a single-site answer is one to one: what an answer says fixes it. Assumes nothing.
use mathlib.Core.Path.{◌≡◌, ap}
use Prim.Native.Nat.{ℕ}
use Rattle.std.specs.Prelude.{Result}
use Rattle.refusal.proofs.RefusalLaws.{said_by_known}
use Rattle.refusal.specs.declared.Refusal.{Refusal}
use Rattle.letters.specs.Answers.{said_letter}
use Rattle.letters.specs.declared.Scaled.{Scaled}

pub letter_known : (a b : Result Scaled Refusal) → said_letter a ≡ said_letter b → a ≡ b
letter_known = said_by_known (λ x. (x.letter, x.power)) known
  where
    known : (v w : Scaled) → ◌≡◌ {A = ℕ × ℕ} (v.letter, v.power) (w.letter, w.power) → v ≡ w
    known v w e = ap (λ (p : ℕ × ℕ). record { letter = p.0; power = p.1 }) e
