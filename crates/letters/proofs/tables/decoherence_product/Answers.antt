-- `tables::decoherence_product` meets its contract: each arm's keys by the codes that the matrices give.
-- Assumes nothing.
use mathlib.Core.Logic.{⊎_elim}
use native.Mathlib.Omega.{arith}
use Rattle.letters.specs.Matrices.{letters_of}
use Rattle.letters.specs.declared.Kind.TheVariants.{Decoherence}
use Rattle.letters.proofs.Codes.{codes, times_code, parts, identity_left, identity_right}
use Rattle.letters.proofs.tables.decoherence_product.Goals as goal

pub returns-in-4 : goal.returns-in-4
unfolding letters_of
returns-in-4 c =
    rw c.scaled.ensures
    (identity_right Decoherence _ _ c.requires.0
    (⊎_elim (λ e. omega arith) (⊎_elim (λ e. omega arith) (λ e. omega arith)) c.in-4.is))

pub returns-in-5 : goal.returns-in-5
unfolding letters_of codes
returns-in-5 c =
    let p = c.requires in
    rw c.scaled-in-5.ensures
    (⊎_elim
    (λ e. parts (times_code Decoherence _ _ 5 p.0 p.1 e))
    (λ e. parts (times_code Decoherence _ _ 15 p.0 p.1 e))
    c.in-5.is)

pub returns-in-6 : goal.returns-in-6
unfolding letters_of codes
returns-in-6 c =
    let p = c.requires in
    rw c.scaled-in-6.ensures
    (parts (times_code Decoherence _ _ 6 p.0 p.1 c.in-6.is))

pub returns-in-7 : goal.returns-in-7
unfolding letters_of codes
returns-in-7 c =
    let p = c.requires in
    rw c.scaled-in-7.ensures
    (parts (times_code Decoherence _ _ 7 p.0 p.1 c.in-7.is))

pub returns-in-9 : goal.returns-in-9
unfolding letters_of codes
returns-in-9 c =
    let p = c.requires in
    rw c.scaled-in-9.ensures
    (parts (times_code Decoherence _ _ 9 p.0 p.1 c.in-9.is))

pub returns-in-10 : goal.returns-in-10
unfolding letters_of codes
returns-in-10 c =
    let p = c.requires in
    rw c.scaled-in-10.ensures
    (parts (times_code Decoherence _ _ 10 p.0 p.1 c.in-10.is))

pub returns-in-11 : goal.returns-in-11
unfolding letters_of codes
returns-in-11 c =
    let p = c.requires in
    rw c.scaled-in-11.ensures
    (parts (times_code Decoherence _ _ 11 p.0 p.1 c.in-11.is))

pub returns-in-13 : goal.returns-in-13
unfolding letters_of codes
returns-in-13 c =
    let p = c.requires in
    rw c.scaled-in-13.ensures
    (parts (times_code Decoherence _ _ 13 p.0 p.1 c.in-13.is))

pub returns-in-0-to-3 : goal.returns-in-0-to-3
unfolding letters_of
returns-in-0-to-3 c = rw c.scaled-in-0-to-3.ensures (identity_left Decoherence _ _ c.requires.1 (omega arith))

pub returns-in_default : goal.returns-in_default
unfolding letters_of codes
returns-in_default c =
    let p = c.requires in
    rw c.scaled-in_default.ensures
    (parts (times_code Decoherence _ _ 14 p.0 p.1 (grind arith)))
