-- The terms of a set as lines of the reference model: what setting, adding and a chain of additions do to the terms, they do to the lines.
-- For any kind of terms whose coefficients are complex numbers or real ones.
-- Assumes nothing.
use Prim.Native.Nat.{◌+◌, ◌≤◌}
use native.Mathlib.Omega.{arith}
use mathlib.Core.Path.{◌≡◌, refl, sym, ap, ◌∙◌}
use mathlib.Core.Bool.{Bool, true, false, not, ◌||◌, cond}
use mathlib.Core.List.{List, [], ◌∷◌, map}
use mathlib.Core.Option.{Option, none, some}
use lib.Dec.{ltb}
use lib.ListN.{length, length-map, length-append}
use borrow.Author.Tests.{lt-ltb, le-ltb, ltb-true, ltb-false}
use Rattle.refusal.specs.Refusals.{Said, gives, refuses}
use Rattle.complex.specs.Complex.{plus_zero, sum_of, is_zero}
use Rattle.complex.specs.declared.Complex.{Complex}
use Rattle.terms.specs.Keyed.{held, has, written, struck, head_or}
use Rattle.terms.specs.Kind.{Terms}
use Rattle.terms.specs.Setting.{most_terms, keyed, coefficient_at, write, has_room, added, add_all}
use Rattle.terms.proofs.SettingLaws.{write-length}
use Rattle.terms.proofs.KeyedLaws.{length-struck, length_replaced, nowhere, has_false}
use Rattle.condition3.specs.ReferenceModel.{Line, real_part, strike_out, replace_or_append, write_line, on_line, add_line, add_lines}

module _ {K N : Type 0} (S : Terms K N) (parts : N → Complex) where
  -- a term as a line
  abbrev pub line_of : S.Term → Line K
  line_of t = (S.key t, parts (S.coefficient t))

  abbrev pub lines_of : List S.Term → List (Line K)
  lines_of l = map line_of l

-- parts of coefficients that add up and vanish as the coefficients do
pub record Faithful {K N : Type 0} (S : Terms K N) (parts : N → Complex) : Type 0 where
  pub same : (x y : K) → S.same x y ≡ true → x ≡ y
  pub key_of : (k : K) (a : N) → S.key (S.term k a) ≡ k
  pub coefficient_of_lem : (k : K) (a : N) → S.coefficient (S.term k a) ≡ a
  pub zero : parts S.zero ≡ real_part plus_zero
  pub sum : (a b : N) → parts (S.sum a b) ≡ sum_of (parts a) (parts b)
  pub is_zero : (a : N) → S.is_zero a ≡ is_zero (parts a)

module _ {K N : Type 0} (S : Terms K N) (parts : N → Complex) (F : Faithful S parts) where
  abbrev line : S.Term → Line K
  line = line_of S parts

  abbrev lines : List S.Term → List (Line K)
  lines = lines_of S parts

  -- ---- one coefficient written

  line_of_lem : (k : K) (a : N) → line (S.term k a) ≡ (k, parts a)
  line_of_lem k a = λ j. (F.key_of k a j, parts (F.coefficient_of_lem k a j))

  lines_struck : (k : K) (l : List S.Term) → lines (struck (keyed S k) l) ≡ strike_out S.same k (lines l)
  unfolding struck strike_out
  lines_struck k [] = refl
  lines_struck k (x ∷ xs) = go (S.same (S.key x) k) (lines_struck k xs)
    where
      go : (b : Bool) → lines (struck (keyed S k) xs) ≡ strike_out S.same k (lines xs)
          → lines (cond b xs (x ∷ struck (keyed S k) xs)) ≡ cond b (lines xs) (line x ∷ strike_out S.same k (lines xs))
      go true e = refl
      go false e = ap (λ l. line x ∷ l) e

  lines_written : (k : K) (a : N) (l : List S.Term) → lines (written (keyed S k) (S.term k a) l) ≡ replace_or_append S.same k (parts a) (lines l)
  unfolding written replace_or_append
  lines_written k a [] = ap (λ x. x ∷ []) (line_of_lem k a)
  lines_written k a (x ∷ xs) = go (S.same (S.key x) k) refl (lines_written k a xs)
    where
      go : (b : Bool) → S.same (S.key x) k ≡ b → lines (written (keyed S k) (S.term k a) xs) ≡ replace_or_append S.same k (parts a) (lines xs)
          → lines (cond b (S.term k a ∷ xs) (x ∷ written (keyed S k) (S.term k a) xs))
          ≡ cond b ((S.key x, parts a) ∷ lines xs) (line x ∷ replace_or_append S.same k (parts a) (lines xs))
      go true t e = ap (λ y. y ∷ lines xs) (line_of_lem k a ∙ ap (λ y. (y, parts a)) (sym (F.same (S.key x) k t)))
      go false t e = ap (λ l. line x ∷ l) e

  pub lines_write : (k : K) (a : N) (l : List S.Term) → lines (write S k a l) ≡ write_line S.same k (parts a) (lines l)
  unfolding write write_line
  lines_write k a l = ap (λ b. lines (cond b (struck (keyed S k) l) (written (keyed S k) (S.term k a) l))) (F.is_zero a) ∙ go (is_zero (parts a))
    where
      go : (b : Bool) → lines (cond b (struck (keyed S k) l) (written (keyed S k) (S.term k a) l))
          ≡ cond b (strike_out S.same k (lines l)) (replace_or_append S.same k (parts a) (lines l))
      go true = lines_struck k l
      go false = lines_written k a l

  -- ---- one coefficient added

  on_line_lem : (k : K) (l : List S.Term) → parts (coefficient_at S k l) ≡ on_line S.same k (lines l)
  unfolding coefficient_at held head_or on_line
  on_line_lem k [] = F.zero
  on_line_lem k (x ∷ xs) = go (S.same (S.key x) k) (on_line_lem k xs)
    where
      go : (b : Bool) → parts (head_or S.coefficient S.zero (held (keyed S k) xs)) ≡ on_line S.same k (lines xs)
          → parts (head_or S.coefficient S.zero (cond b (x ∷ []) (held (keyed S k) xs))) ≡ cond b (parts (S.coefficient x)) (on_line S.same k (lines xs))
      go true e = refl
      go false e = e

  pub parts_added : (k : K) (a : N) (l : List S.Term) → parts (added S k a l) ≡ sum_of (on_line S.same k (lines l)) (parts a)
  unfolding added
  parts_added k a l = F.sum (coefficient_at S k l) a ∙ ap (λ z. sum_of z (parts a)) (on_line_lem k l)

  pub lines_add : (k : K) (a : N) (l : List S.Term) → lines (write S k (added S k a l) l) ≡ add_line S.same k (parts a) (lines l)
  unfolding add_line
  lines_add k a l = lines_write k (added S k a l) l ∙ ap (λ z. write_line S.same k z (lines l)) (parts_added k a l)

  -- ---- room: a 65th term

  -- there is room exactly if at most the most terms are then held
  room_is : (k : K) (a : N) (l : List S.Term) → length l ≤ most_terms → not (has_room S k a l) ≡ ltb most_terms (length (write S k a l))
  unfolding has_room write
  room_is k a l few = go (S.is_zero a) (has (keyed S k) l) refl
    where
      go : (z h : Bool) → has (keyed S k) l ≡ h → not (z || (h || ltb (length l) most_terms)) ≡ ltb most_terms (length (cond z (struck (keyed S k) l) (written (keyed S k) (S.term k a) l)))
      go true h e = sym (le-ltb most_terms (length (struck (keyed S k) l)) (omega (arith, length-struck (keyed S k) l)))
      go false true e = sym (le-ltb most_terms (length (written (keyed S k) (S.term k a) l)) (omega (arith, length_replaced (keyed S k) (S.term k a) l e)))
      go false false e = last (ltb (length l) most_terms) refl
        where
          longer : length (written (keyed S k) (S.term k a) l) ≡ length l + 1
          longer = ap length ((nowhere (keyed S k) l (has_false (keyed S k) l e)).written (S.term k a)) ∙ length-append l (S.term k a ∷ [])

          last : (b : Bool) → ltb (length l) most_terms ≡ b → not b ≡ ltb most_terms (length (written (keyed S k) (S.term k a) l))
          last true t = sym (le-ltb most_terms (length (written (keyed S k) (S.term k a) l)) (omega (arith, longer, ltb-true (length l) most_terms t)))
          last false t = sym (lt-ltb most_terms (length (written (keyed S k) (S.term k a) l)) (omega (arith, longer, ltb-false (length l) most_terms t)))

  -- lines are as many as terms
  lines_long : (l : List S.Term) → length (lines l) ≡ length l
  lines_long l = length-map l line

  pub full_is : (k : K) (a : N) (l : List S.Term) → length l ≤ most_terms → not (has_room S k a l) ≡ ltb most_terms (length (lines (write S k a l)))
  full_is k a l few = room_is k a l few ∙ ap (ltb most_terms) (sym (lines_long (write S k a l)))

  -- ---- a chain of additions

  -- a chain's terms as lines
  abbrev pub lines_if : Said (List S.Term) → Option (List (Line K))
  lines_if (gives l) = some (lines l)
  lines_if (refuses n s) = none

  pub lines_add_all : (ts l : List S.Term) → length l ≤ most_terms → lines_if (add_all S (map gives ts) l) ≡ add_lines S.same (lines ts) (lines l)
  unfolding add_all add_lines
  lines_add_all [] l few = refl
  lines_add_all (t ∷ ts) l few =
      go (has_room S k a l) refl (λ room. lines_add_all ts m (write-length S k a l room few))
      ∙ ap (λ x. cond (ltb most_terms (length x)) none (add_lines S.same (lines ts) x)) (lines_add k (S.coefficient t) l)
    where
      k : K
      k = S.key t

      a : N
      a = added S k (S.coefficient t) l

      m : List S.Term
      m = write S k a l

      go : (b : Bool) → has_room S k a l ≡ b → (has_room S k a l ≡ true → lines_if (add_all S (map gives ts) m) ≡ add_lines S.same (lines ts) (lines m))
          → lines_if (cond b (add_all S (map gives ts) m) (refuses 6 [])) ≡ cond (ltb most_terms (length (lines m))) none (add_lines S.same (lines ts) (lines m))
      go true e h = h e ∙ ap (λ b. cond b none (add_lines S.same (lines ts) (lines m))) (ap not (sym e) ∙ full_is k a l few)
      go false e h = ap (λ b. cond b none (add_lines S.same (lines ts) (lines m))) (ap not (sym e) ∙ full_is k a l few)
