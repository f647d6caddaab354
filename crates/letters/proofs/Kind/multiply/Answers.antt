-- `Kind::multiply` meets its contract: the refusal by the letters' bounds, the answer by the table.
-- Assumes nothing.
use mathlib.Core.Path.{sym, ◌∙◌}
use native.Mathlib.Omega.{arith}
use Rattle.letters.proofs.Codes.{answer}
use Rattle.letters.proofs.GivenLaws.{multiply_given, multiply_refused}
use Rattle.letters.proofs.Kind.multiply.Goals as goal

pub returns-then-left-gt-HIGHEST_LETTER : goal.returns-then-left-gt-HIGHEST_LETTER
returns-then-left-gt-HIGHEST_LETTER c = sym (multiply_refused _ _ _ (λ l r. omega arith))

pub returns : goal.returns
returns c = answer _ c.product.ensures ∙ sym (multiply_given _ _ _ (omega arith) (omega arith))
