-- What the entries on Hamiltonians answer is what those on sets of any keys and coefficients do, for products and real coefficients: what a set
-- answers is read with a second part of +0.
-- Assumes nothing.
use mathlib.Core.Path.{◌≡◌, refl, ap}
use mathlib.Core.Bool.{Bool, true, false, not, cond}
use mathlib.Core.List.{List, [], ◌∷◌, map}
use Rattle.std.specs.Prelude.{Option, Some, None, Float}
use Rattle.std.specs.Option.{option_map}
use Rattle.refusal.specs.Refusals.{Said, gives, refuses, done, listed}
use Rattle.complex.specs.Coefficients.{reals}
use Rattle.complex.specs.Complex.{part_in_range}
use Rattle.complex.specs.declared.Complex.{Complex}
use Rattle.items.specs.Record.{valid}
use Rattle.items.specs.declared.Items.{Items}
use Rattle.terms.specs.Chains.{and_then}
use Rattle.terms.specs.Keyed.{held}
use Rattle.terms.specs.Setting.{keyed, coefficient_at, write, has_room, added}
use Rattle.term_sets.specs.Keys.{item_keys}
use Rattle.term_sets.specs.Sets.{get_in}
use Rattle.term_sets.specs.Sets as sets
use Rattle.term_sets.specs.declared.Set.{Set}
use Rattle.term_writing.specs.WritingAnswers.{unless_refused, set_answer, add_answer}
use Rattle.hamiltonians.specs.Reals.{RealTerm, real_terms, complex_of, held_by, valid_set}
use Rattle.hamiltonians.specs.RealAnswers.{get_real, set_real, add_real}
use Rattle.hamiltonians.specs.declared.PauliHamiltonian.{PauliHamiltonian}

-- ---- what a set of real terms answers, read of the Hamiltonian that has it

abbrev pub complex_answer : Said Float → Said Complex
complex_answer z = and_then z (λ a. gives (complex_of a))

abbrev pub told_before : Said (List Float) × Set Items Float → Said (List Complex) × PauliHamiltonian
told_before z = (and_then z.0 (λ l. gives (map complex_of l)), record { terms = z.1 })

abbrev pub told_done : Said Unit × Set Items Float → Said Unit × PauliHamiltonian
told_done z = (z.0, record { terms = z.1 })

-- what an option holds, read so
pub listed_map : {A B : Type 0} (f : A → B) (o : Option A) → listed (option_map f o) ≡ map f (listed o)
listed_map f (Some x) = refl
listed_map f None = refl

complex_before : (l : List RealTerm) → map complex_of (map (λ t. t.coefficient) l) ≡ map (λ t. complex_of t.coefficient) l
complex_before [] = refl
complex_before (t ∷ l) = ap (λ (r : List Complex). complex_of t.coefficient ∷ r) (complex_before l)

-- ---- by the tests of the set, the key, the coefficient and the room, and of the sum

get_by : (v w : Bool) (a : Float)
    → complex_answer (cond (not v) (refuses 0 []) (and_then (cond w done (refuses 0 [])) (λ u. gives a))) ≡ cond (not v) (refuses 0 []) (cond (not w) (refuses 0 []) (gives (complex_of a)))
get_by false w a = refl
get_by true false a = refl
get_by true true a = refl

set_by : (v w r m : Bool) (t u : Set Items Float) (l : List RealTerm)
    → told_before (cond (not v) (refuses 0 [], t) (unless_refused (cond w done (refuses 0 [])) t
    (cond (not r) (refuses 5 [], t) (cond (not m) (refuses 6 [], t) (gives (map (λ t. t.coefficient) l), u)))))
    ≡ (let s : PauliHamiltonian = record { terms = t } in let s' : PauliHamiltonian = record { terms = u } in
    cond (not v) (refuses 0 [], s) (cond (not w) (refuses 0 [], s)
    (cond (not r) (refuses 5 [], s) (cond (not m) (refuses 6 [], s) (gives (map (λ t. complex_of t.coefficient) l), s')))))
set_by false w r m t u l = refl
set_by true false r m t u l = refl
set_by true true false m t u l = refl
set_by true true true false t u l = refl
set_by true true true true t u l = λ j. (gives (complex_before l j), record { terms = u })

add_by : (v w r m q : Bool) (t u : Set Items Float)
    → told_done (cond (not v) (refuses 0 [], t) (unless_refused (cond w done (refuses 0 [])) t
    (cond (not r) (refuses 5 [], t) (cond (not m) (refuses 6 [], t) (cond (not q) (refuses 5 [], t) (done, u))))))
    ≡ (let s : PauliHamiltonian = record { terms = t } in let s' : PauliHamiltonian = record { terms = u } in
    cond (not v) (refuses 0 [], s) (cond (not w) (refuses 0 [], s)
    (cond (not r) (refuses 5 [], s) (cond (not m) (refuses 6 [], s) (cond (not q) (refuses 5 [], s) (done, s'))))))
add_by false w r m q t u = refl
add_by true false r m q t u = refl
add_by true true false m q t u = refl
add_by true true true false q t u = refl
add_by true true true true false t u = refl
add_by true true true true true t u = refl

module _ (s : PauliHamiltonian) (k : Items) where
  pub get_real_is : complex_answer (get_in item_keys reals false s.terms k) ≡ get_real s k
  unfolding get_in get_real
  get_real_is = get_by (valid_set s) (valid k) (coefficient_at real_terms k (held_by s))

  pub set_real_is : (a : Float) → told_before (set_answer item_keys reals false s.terms k a) ≡ set_real s k a
  unfolding set_answer set_real
  set_real_is a =
      set_by (valid_set s) (valid k) (part_in_range a) (has_room real_terms k a (held_by s)) s.terms
      (sets.filled item_keys reals (write real_terms k a (held_by s))) (held (keyed real_terms k) (held_by s))

  pub add_real_is : (a : Float) → told_done (add_answer item_keys reals false s.terms k a) ≡ add_real s k a
  unfolding add_answer add_real
  add_real_is a =
      let b = added real_terms k a (held_by s) in
      add_by (valid_set s) (valid k) (part_in_range a) (has_room real_terms k b (held_by s)) (part_in_range b) s.terms
      (sets.filled item_keys reals (write real_terms k b (held_by s)))
