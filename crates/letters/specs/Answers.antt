-- What the single-site entries answer: a letter and a power of i, 0 to 3, or a refusal.
-- Document 01, `One site has sixteen cases`, and number 2; document 02, `Factors as powers of i`.
use Rattle.std.specs.Prelude.{ℕ, ◌||◌, cond, [], ltb, Result}
use Rattle.refusal.specs.Refusals.{Said, gives, refuses, said_by}
use Rattle.refusal.specs.declared.Refusal.{Refusal}
use Rattle.letters.specs.Matrices.{Letters}
use Rattle.letters.specs.Single.{times, conjugated, converted, letter_of, power_of}
use Rattle.letters.specs.declared.Kind.{Kind}
use Rattle.letters.specs.declared.Kind.TheVariants.{Pauli, Decoherence}
use Rattle.letters.specs.declared.Scaled.{Scaled}

-- the other kind
abbrev pub other : Kind → Kind
other Pauli = Decoherence
other Decoherence = Pauli

-- the highest letter code: number 2 is a "letter code above 3"
abbrev pub highest_letter : ℕ
highest_letter = 3

-- the letter and the power of i of 4 k + c
abbrev pub decoded : ℕ → Said (ℕ × ℕ)
decoded e = gives (letter_of e, power_of e)

unfoldable pub multiply_letters : Letters → ℕ → ℕ → Said (ℕ × ℕ)
multiply_letters M l r = cond (ltb highest_letter l || ltb highest_letter r) (refuses 2 []) (decoded (times M l r))

unfoldable pub conjugate_letter : Letters → ℕ → Said (ℕ × ℕ)
conjugate_letter M l = cond (ltb highest_letter l) (refuses 2 []) (decoded (conjugated M l))

unfoldable pub convert_letter : Letters → Letters → ℕ → Said (ℕ × ℕ)
convert_letter M M' l = cond (ltb highest_letter l) (refuses 2 []) (decoded (converted M M' l))

-- what an answer says: a letter and a power of i, or a refusal
abbrev pub said_letter : Result Scaled Refusal → Said (ℕ × ℕ)
said_letter r = said_by (λ x. (x.letter, x.power)) r
