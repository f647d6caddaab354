-- Setting and adding under a key, for any kind of set: once the record and the key are judged, the set's terms are the lines that the reference
-- model has after the call.
-- Assumes nothing.
use Prim.Native.Nat.{◌≤◌}
use mathlib.Core.Path.{◌≡◌, sym, ap, ◌∙◌}
use mathlib.Core.Bool.{Bool, true, false}
use mathlib.Core.List.{List}
use lib.ListN.{length}
use Rattle.complex.specs.Complex.{in_range}
use Rattle.complex.specs.declared.Complex.{Complex}
use Rattle.terms.specs.Keyed.{each}
use Rattle.terms.specs.Kind.{Terms}
use Rattle.terms.specs.Setting.{most_terms, write, has_room, added}
use Rattle.terms.specs.Entries.{set_in, add_in}
use Rattle.terms.proofs.FilledLaws.{Sets, held_in, held-filled}
use Rattle.terms.proofs.SettingLaws.{each_write}
use Rattle.condition3.specs.ReferenceModel.{Line, write_line, add_line, unless_full, lines_in_range, unless_refused}
use Rattle.condition3.proofs.LineLaws.{lines_of, Faithful, lines_write, lines_add}
use Rattle.condition3.proofs.AnswerLaws.{past}
use Rattle.condition3.proofs.WrittenLines.{arguments_refused, range_is, written_out, kept_full, kept_out, written_in}

-- `fits` judges a coefficient by its parts
module _ {K N R : Type 0} (S : Terms K N) (parts : N → Complex) (F : Faithful S parts) (T : Sets S.Term R) (fits : N → Bool) (range : (a : N) → in_range (parts a) ≡ fits a) where
  abbrev lines_in : R → List (Line K)
  lines_in s = lines_of S parts (held_in T s)

  module _ (s : R) (k : K) (a : N) (few : length (held_in T s) ≤ most_terms) (ranges : each (λ t ts. in_range (parts (S.coefficient t))) (held_in T s) ≡ true)
      (lawful : Bool) (bad : fits a ≡ false → lawful ≡ false) (good : fits a ≡ true → lawful ≡ true) where
    abbrev terms : List S.Term
    terms = held_in T s

    -- b in range is written, and makes the lines of the model
    accepted : (b : N) (lines : List (Line K)) → lines_of S parts (write S k b terms) ≡ lines → lawful ≡ true → has_room S k b terms ≡ true → fits b ≡ true
        → lines_in (T.filled (write S k b terms)) ≡ unless_refused lawful (unless_full lines) (lines_in s)
    accepted b lines is g e r =
        ap (lines_of S parts) (held-filled T (write S k b terms))
        ∙ written_in S parts F lawful k b terms lines is few g e
        (ap lines_in_range (sym is) ∙ range_is S parts (write S k b terms) ∙ each_write S (λ t. in_range (parts (S.coefficient t))) k b terms ranges (written b r))
      where
        written : (b : N) → fits b ≡ true → in_range (parts (S.coefficient (S.term k b))) ≡ true
        written b r = ap (λ x. in_range (parts x)) (F.coefficient_of_lem k b) ∙ range b ∙ r

    pub set_lines : {A : Type 0} (shown : S.Term → A)
        → lines_in (set_in S fits T.filled shown s terms k a).1 ≡ unless_refused lawful (unless_full (write_line S.same k (parts a) (lines_in s))) (lines_in s)
    set_lines shown =
        past P (fits a) _ _ _ _ (λ e. sym (arguments_refused lawful (lines_in s) (bad e) (unless_full lines))) (λ r.
        past P (has_room S k a terms) _ _ _ _ (λ e. kept_full S parts F lawful k a terms lines is few e) (λ e. accepted a lines is (good r) e r))
      where
        lines : List (Line K)
        lines = write_line S.same k (parts a) (lines_in s)

        is : lines_of S parts (write S k a terms) ≡ lines
        is = lines_write S parts F k a terms

        P : R → Type 0
        P x = lines_in x ≡ unless_refused lawful (unless_full lines) (lines_in s)

    pub add_lines_lem : lines_in (add_in S fits T.filled s terms k a).1 ≡ unless_refused lawful (unless_full (add_line S.same k (parts a) (lines_in s))) (lines_in s)
    add_lines_lem =
        past P (fits a) _ _ _ _ (λ e. sym (arguments_refused lawful (lines_in s) (bad e) (unless_full lines))) (λ r.
        past P (has_room S k b terms) _ _ _ _ (λ e. kept_full S parts F lawful k b terms lines is few e) (λ e.
        past P (fits b) _ _ _ _ (λ o. kept_out S parts F lawful k b terms lines is (out o)) (λ o. accepted b lines is (good r) e o)))
      where
        b : N
        b = added S k a terms

        lines : List (Line K)
        lines = add_line S.same k (parts a) (lines_in s)

        is : lines_of S parts (write S k b terms) ≡ lines
        is = lines_add S parts F k a terms

        P : R → Type 0
        P x = lines_in x ≡ unless_refused lawful (unless_full lines) (lines_in s)

        out : fits b ≡ false → lines_in_range lines ≡ false
        out o = ap lines_in_range (sym is ∙ lines_write S parts F k b terms) ∙ written_out S.same k (parts b) (lines_in s) (range b ∙ o)
