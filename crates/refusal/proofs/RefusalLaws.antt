-- An answer is known by what it says: the readings of refusals, of answers and of options are one to one.
-- Assumes nothing.
use Prim.Native.Nat.{ℕ}
use mathlib.Core.List.{List, [], ◌∷◌}
use mathlib.Core.Path.{◌≡◌, refl, sym, ap, ap₂, ◌∙◌}
use lib.ListN.{get_or}
use Rattle.std.specs.Prelude.{Some, None, Result, Ok, Err}
use Rattle.std.specs.Result.{IsOk}
use Rattle.refusal.specs.Refusals.{number, site_of, listed, Said, gives, refuses, said_by, told_by, said_done}
use Rattle.refusal.specs.declared.Refusal.{Refusal}
use Rattle.refusal.specs.declared.Refusal.TheVariants.{Malformed, SiteTooHigh, UnknownLetter, SiteOccupied, EmptySide, CoefficientOutOfRange, SetFull, TooManySpins, SiteOutsideSpins, RowOutOfRange, BufferTooShort, NotWhole}

-- the refusal with a number and a site
pub refusal_of : ℕ → List ℕ → Refusal
refusal_of k l =
    let s = get_or l 0 0 in
    get_or
    (Malformed ∷ SiteTooHigh s ∷ UnknownLetter ∷ SiteOccupied s ∷ EmptySide ∷ CoefficientOutOfRange ∷ SetFull ∷ TooManySpins ∷ SiteOutsideSpins s ∷ RowOutOfRange ∷ BufferTooShort ∷ [])
    k
    NotWhole

pub refusal_is : (why : Refusal) → refusal_of (number why) (site_of why) ≡ why
unfolding refusal_of
refusal_is Malformed = refl
refusal_is (SiteTooHigh s) = refl
refusal_is UnknownLetter = refl
refusal_is (SiteOccupied s) = refl
refusal_is EmptySide = refl
refusal_is CoefficientOutOfRange = refl
refusal_is SetFull = refl
refusal_is TooManySpins = refl
refusal_is (SiteOutsideSpins s) = refl
refusal_is RowOutOfRange = refl
refusal_is BufferTooShort = refl
refusal_is NotWhole = refl

-- the answer that gives a value or holds a refusal
abbrev pub answer_of : {A E : Type 0} → (A → E) → (Refusal → E) → Said A → E
answer_of given refused (gives x) = given x
answer_of given refused (refuses k l) = refused (refusal_of k l)

-- answers that come back from what they say are equal where they say the same
pub reading_known : {A E : Type 0} (reading : E → Said A) (given : A → E) (refused : Refusal → E) → ((x : E) → answer_of given refused (reading x) ≡ x)
    → (x y : E) → reading x ≡ reading y → x ≡ y
reading_known reading given refused back x y e = sym (back x) ∙ ap (answer_of given refused) e ∙ back y

pub refusal_known : (why why' : Refusal) → number why ≡ number why' → site_of why ≡ site_of why' → why ≡ why'
refusal_known why why' e h = sym (refusal_is why) ∙ ap₂ refusal_of e h ∙ refusal_is why'

-- a reading is one to one: what it says of a value fixes the value
abbrev pub OneToOne : {V A : Type 0} → (V → A) → Type 0
OneToOne {V} show = (v w : V) → show v ≡ show w → v ≡ w

-- any option, and so the site of a refusal, by its list
pub listed_known : {A : Type 0} → OneToOne (listed {A = A})
listed_known (Some x) (Some y) e = cc
listed_known None None e = refl
listed_known (Some x) None e = cc
listed_known None (Some y) e = cc

-- a result, by its value or its refusal
pub said_by_known : {V A : Type 0} (show : V → A) → OneToOne show → OneToOne (said_by show)
said_by_known show known (Ok v) (Ok w) e = let h : show v ≡ show w = cc in ap Ok (known v w h)
said_by_known show known (Err why) (Err why') e = ap Err (refusal_known why why' (cc) (cc))
said_by_known show known (Ok v) (Err why) e = cc
said_by_known show known (Err why) (Ok v) e = cc

-- a result without a value, by its refusal
pub done_known : OneToOne said_done
done_known = said_by_known (λ (u : Unit). tt) (λ v w e. refl)

-- a result on a record, by that record
pub told_by_known : {V A : Type 0} (before : A) (show : V → A) → OneToOne show → OneToOne (told_by before show)
told_by_known before show known r q e = go r q (ap (λ t. t.0) e) (ap (λ t. t.1) e)
  where
    go : (r q : Result _ Refusal) → (told_by before show r).0 ≡ (told_by before show q).0 → (told_by before show r).1 ≡ (told_by before show q).1 → r ≡ q
    go (Ok v) (Ok w) s e = ap Ok (known v w e)
    go (Err why) (Err why') s e = ap Err (refusal_known why why' (cc) (cc))
    go (Ok v) (Err why) s e = cc
    go (Err why) (Ok v) s e = cc

-- ---- a result that says a value

-- it is one
pub said_ok : {V A : Type 0} (show : V → A) (x : Result V Refusal) (a : A) → said_by show x ≡ gives a → IsOk x
said_ok show (Ok y) a e = refl
said_ok show (Err why) a e = cc

-- and its value reads so
pub said_value : {V A : Type 0} (show : V → A) (x : Result V Refusal) (y : V) (a : A) → x ≡ Ok y → said_by show x ≡ gives a → show y ≡ a
said_value show x y a q e = let f : gives (show y) ≡ gives a = sym (ap (said_by show) q) ∙ e in cc
