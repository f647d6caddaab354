-- What an answer says determines it: the readings that the contracts name are one to one, so an equation with a definition fixes the answer. And what
-- a refusal that is passed on says.
-- Assumes nothing.
use mathlib.Core.Path.{◌≡◌, refl, ap}
use mathlib.Core.List.{[], ◌∷◌}
use lib.Ieee.{Float}
use Rattle.std.specs.Prelude.{Some, None, Result, Ok, Err}
use Rattle.std.specs.Result.{IsErrAnd}
use Rattle.refusal.specs.Refusals.{listed, number, site_of, gives, refuses, said_by}
use Rattle.refusal.specs.declared.Refusal.{Refusal}
use Rattle.refusal.proofs.RefusalLaws.{OneToOne, listed_known, said_by_known}
use Rattle.term_sets.specs.Answers.{said_get, said_set}

-- ---- what setting a coefficient says of the one that was there: its parts in their order, or nothing

pub said_replaced : (x y : Float) → said_set (Ok (Some (record { re = x; im = y }))) ≡ gives (record { re = x; im = y } ∷ [])
said_replaced x y = refl

pub said_free : said_set (Ok None) ≡ gives []
said_free = refl

-- ---- one to one

pub get_answer_known : OneToOne said_get
get_answer_known = said_by_known (λ a. a) (λ x y e. e)

pub set_answer_known : OneToOne said_set
set_answer_known = said_by_known listed listed_known

-- ---- what `?` leaves

pub passed_on : {V A : Type 0} (show : V → A) (r : Result V Refusal) (why : Refusal) → IsErrAnd r (λ w. w ≡ why) → said_by show r ≡ refuses (number why) (site_of why)
passed_on show (Ok v) why h = absurd h
passed_on show (Err w) why h = ap (λ x. refuses (number x) (site_of x)) h
