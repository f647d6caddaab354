-- What the entries on a set answer once its record and the key are judged, for any kind of terms: `in_range` judges a coefficient, R is the
-- type of the records, and `filled` makes one of terms. Refusals come first, in their order, and the record s stands beside them.
-- Document 01, `Numbers of the no`, 5 and 6.
use Rattle.std.specs.Prelude.{Bool, not, cond, List, [], map}
use Rattle.refusal.specs.Refusals.{Said, gives, refuses, done}
use Rattle.terms.specs.Keyed.{held, each}
use Rattle.terms.specs.Kind.{Terms}
use Rattle.terms.specs.Setting.{keyed, write, has_room, added}

module _ {K N : Type 0} (S : Terms K N) (in_range : N → Bool) where
  -- every coefficient is in range
  unfoldable pub all_in_range : List S.Term → Bool
  all_in_range l = each (λ t ts. in_range (S.coefficient t)) l

  module _ {R : Type 0} (filled : List S.Term → R) where
    -- a coefficient set under a key of the terms l that s holds; what was there before is shown, as a list of one, or none where the key was free
    abbrev pub set_in : {A : Type 0} → (S.Term → A) → R → List S.Term → K → N → Said (List A) × R
    set_in shown s l k a =
        cond (not (in_range a)) (refuses 5 [], s)
        (cond (not (has_room S k a l)) (refuses 6 [], s)
        (gives (map shown (held (keyed S k) l)), filled (write S k a l)))

    -- a coefficient added to the one under a key; the sum is judged as it will be held
    abbrev pub add_in : R → List S.Term → K → N → Said Unit × R
    add_in s l k a =
        let b = added S k a l in
        cond (not (in_range a)) (refuses 5 [], s)
        (cond (not (has_room S k b l)) (refuses 6 [], s)
        (cond (not (in_range b)) (refuses 5 [], s)
        (done, filled (write S k b l))))

    -- what a chain ends in: its own refusal, or what is held at the end, judged by 5
    unfoldable pub ended : R → Said (List S.Term) → Said Unit × R
    ended s (gives l) = cond (not (all_in_range l)) (refuses 5 [], s) (done, filled l)
    ended s (refuses n l) = (refuses n l, s)
