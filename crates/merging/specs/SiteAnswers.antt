-- What reading and setting one site of a product answer, refusals first in the order of their numbers. Document 01: pauli_product.rs,
-- decoherence_product.rs and `Numbers of the no`. Beside a refusal stands the record given.
use Rattle.std.specs.Prelude.{Option, Result, List, [], ◌∷◌, not, cond, ℕ, suc, max, ltb, eqb}
use Rattle.refusal.specs.Refusals.{Said, gives, refuses, done, listed, said_by}
use Rattle.refusal.specs.declared.Refusal.{Refusal}
use Rattle.letters.specs.Answers.{highest_letter}
use Rattle.items.specs.Record.{highest_site, valid, letter_at, reach, record_of, update}
use Rattle.items.specs.declared.Items.{Items}

-- the letter on a site; none on a free one
unfoldable pub get_answer : Items → ℕ → Said (List ℕ)
get_answer p s =
    cond (not (valid p)) (refuses 0 [])
    (cond (ltb highest_site s) (refuses 1 (s ∷ []))
    (gives (cond (eqb (letter_at p s) 0) [] (letter_at p s ∷ []))))

-- "`set_pauli` with Identity removes an occupied site and does nothing on a free one"
unfoldable pub set_answer : Items → ℕ → ℕ → Said Unit × Items
set_answer p s l =
    cond (not (valid p)) (refuses 0 [], p)
    (cond (ltb highest_site s) (refuses 1 (s ∷ []), p)
    (cond (ltb highest_letter l) (refuses 2 [], p)
    (done, record_of (update (letter_at p) s l) (max (reach p) (suc s)))))

-- what an answer says: the letter as a list of one, none on a free site
abbrev pub said_got : Result (Option ℕ) Refusal → Said (List ℕ)
said_got r = said_by listed r
