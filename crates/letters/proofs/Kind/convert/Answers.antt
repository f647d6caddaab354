-- `Kind::convert` meets its contract: the refusal by the letter's bound, the answer by the table.
-- Assumes nothing.
use mathlib.Core.Path.{sym, ◌∙◌}
use native.Mathlib.Omega.{arith}
use Rattle.letters.proofs.Codes.{answer}
use Rattle.letters.proofs.GivenLaws.{convert_given, convert_refused}
use Rattle.letters.proofs.Kind.convert.Goals as goal

pub returns-then-letter-gt-HIGHEST_LETTER : goal.returns-then-letter-gt-HIGHEST_LETTER
returns-then-letter-gt-HIGHEST_LETTER c = sym (convert_refused _ _ _ (omega arith))

pub returns : goal.returns
returns c = answer _ c.convert_power-power.ensures ∙ sym (convert_given _ _ _ (omega arith))
