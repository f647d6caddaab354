-- The numbers of the refusals, and what an answer says: a value, or a refusal by its number.
-- Document 01, `Numbers of the no`.
use Rattle.std.specs.Prelude.{ℕ, List, [], ◌∷◌, Option, Some, None, Result, Ok, Err}
use Rattle.refusal.specs.declared.Refusal.{Refusal}
use Rattle.refusal.specs.declared.Refusal.TheVariants.{Malformed, SiteTooHigh, UnknownLetter, SiteOccupied, EmptySide, CoefficientOutOfRange, SetFull, TooManySpins, SiteOutsideSpins, RowOutOfRange, BufferTooShort, NotWhole}

-- the number of a refusal
abbrev pub number : Refusal → ℕ
number Malformed = 0
number (SiteTooHigh s) = 1
number UnknownLetter = 2
number (SiteOccupied s) = 3
number EmptySide = 4
number CoefficientOutOfRange = 5
number SetFull = 6
number TooManySpins = 7
number (SiteOutsideSpins s) = 8
number RowOutOfRange = 9
number BufferTooShort = 10
number NotWhole = 11

-- the site that 1, 3 and 8 carry; the others carry none
abbrev pub site_of : Refusal → List ℕ
site_of Malformed = []
site_of (SiteTooHigh s) = s ∷ []
site_of UnknownLetter = []
site_of (SiteOccupied s) = s ∷ []
site_of EmptySide = []
site_of CoefficientOutOfRange = []
site_of SetFull = []
site_of TooManySpins = []
site_of (SiteOutsideSpins s) = s ∷ []
site_of RowOutOfRange = []
site_of BufferTooShort = []
site_of NotWhole = []

-- what an option holds, as a list of one; none is the empty list
abbrev pub listed : {A : Type 0} → Option A → List A
listed (Some x) = x ∷ []
listed None = []

-- what an entry says: a value, or a refusal by its number and the site that it carries
pub data Said (A : Type 0) : Type 0 where
  gives : A → Said A
  refuses : ℕ → List ℕ → Said A

-- what an answer says that has no value of its own
abbrev pub done : Said Unit
done = gives tt

-- what a result says: its value, read by `show`, or its refusal by number and site
abbrev pub said_by : {V A : Type 0} → (V → A) → Result V Refusal → Said A
said_by show (Ok v) = gives (show v)
said_by show (Err why) = refuses (number why) (site_of why)

-- what a result says of a record, with the record that its caller then has: the one in the value, read by `show`, or, refused, the one as before
abbrev pub told_by : {V A : Type 0} → A → (V → A) → Result V Refusal → Said Unit × A
told_by before show (Ok v) = (done, show v)
told_by before show (Err why) = (refuses (number why) (site_of why), before)

-- what a result without a value says
abbrev pub said_done : Result Unit Refusal → Said Unit
said_done r = said_by (λ u. tt) r
