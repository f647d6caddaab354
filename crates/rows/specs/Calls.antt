-- A row call: its refusals in the order 7, 9, 8, then the row; and what it answers and leaves in three lent buffers, refused or not.
-- Document 01, `Rows` and `Numbers of the no`.
use Rattle.std.specs.Prelude.{◌≡◌, ℕ, ◌-◌, Bool, cond, List, [], ◌∷◌, map, leb, ltb, length, Float}
use Rattle.refusal.specs.Refusals.{Said, gives, refuses}
use Rattle.complex.specs.declared.Complex.{Complex}
use Rattle.items.specs.Record.{reach}
use Rattle.row_entries.specs.Answers.{most_spins}
use Rattle.items.specs.declared.Items.{Items}
use Rattle.rows.specs.Buffers.{TwoParts, float_parts, room_for, laid}

-- the highest site of the first product that has a site at n or above, as a list of one
unfoldable pub outside : ℕ → List Items → List ℕ
outside n [] = []
outside n (p ∷ ps) = let rest = outside n ps in cond (ltb n (reach p)) ((reach p - 1) ∷ []) rest

-- 8: "a term has a site at n or above: first such term, Hamiltonian before noise, left side first, its highest site"
unfoldable pub unless_outside : {N : Type 0} → List ℕ → List (ℕ × N) → Said (List (ℕ × N))
unless_outside [] row = gives row
unless_outside (s ∷ ss) row = refuses 8 (s ∷ [])

-- a row r of `rows` rows over n spins, of terms with the products ps
unfoldable pub checked_row : {N : Type 0} → ℕ → ℕ → ℕ → List Items → List (ℕ × N) → Said (List (ℕ × N))
checked_row n rows r ps row =
    cond (ltb most_spins n) (refuses 7 [])
    (cond (leb rows r) (refuses 9 [])
    (unless_outside (outside n ps) row))

-- 0 where there are more contributions than a row has room for
unfoldable pub unless_malformed : {N : Type 0} → Bool → List (ℕ × N) → Said (List (ℕ × N))
unless_malformed good row = cond good (gives row) (refuses 0 [])

-- ---- what a call answers, and what a buffer holds after it

unfoldable pub count_of : {N X : Type 0} → Said (List (ℕ × N)) → List ℕ → List X → List X → Said ℕ
count_of (gives l) a b c = cond (room_for (length l) a b c) (gives (length l)) (refuses 10 [])
count_of (refuses k s) a b c = refuses k s

-- f is the part of an entry that the buffer old takes
unfoldable pub after : {N X Y : Type 0} → (ℕ × N → Y) → Said (List (ℕ × N)) → List ℕ → List X → List X → List Y → List Y
after f (gives l) a b c old = laid (room_for (length l) a b c) (map f l) old
after f (refuses k s) a b c old = old

-- x is the row to deliver, or the refusal; r what is said; a to a', b to b' and c to c' the buffers
pub record RowCallIn {N X : Type 0} (P : TwoParts N X) (x : Said (List (ℕ × N))) (r : Said ℕ) (a a' : List ℕ) (b b' c c' : List X) : Type 0 where
  pub answer : r ≡ count_of x a b c
  pub columns : a' ≡ after (λ e. e.0) x a b c a
  pub reals : b' ≡ after (λ e. P.re e.1) x a b c b
  pub imaginaries : c' ≡ after (λ e. P.im e.1) x a b c c

-- in f64
abbrev pub RowCall : Said (List (ℕ × Complex)) → Said ℕ → (a a' : List ℕ) (b b' c c' : List Float) → Type 0
RowCall x r a a' b b' c c' = RowCallIn float_parts x r a a' b b' c c'
