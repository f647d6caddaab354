-- `Kind::conjugate` meets its contract: the refusal by the letter's bound, the answer by the table.
-- Assumes nothing.
use mathlib.Core.Path.{sym, ◌∙◌}
use native.Mathlib.Omega.{arith}
use Rattle.letters.proofs.Codes.{answer}
use Rattle.letters.proofs.GivenLaws.{conjugate_given, conjugate_refused}
use Rattle.letters.proofs.Kind.conjugate.Goals as goal

pub returns-then-letter-gt-HIGHEST_LETTER : goal.returns-then-letter-gt-HIGHEST_LETTER
returns-then-letter-gt-HIGHEST_LETTER c = sym (conjugate_refused _ _ (omega arith))

pub returns : goal.returns
returns c = answer _ c.conjugate_power-power.ensures ∙ sym (conjugate_given _ _ (omega arith))
