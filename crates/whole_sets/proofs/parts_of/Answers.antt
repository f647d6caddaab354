-- The number found, read back from its bits; 0 where there is none (`found_parts`).
use mathlib.Core.Path.{◌∙◌}
use Rattle.exact_sums.proofs.HalfLaws.{read}
use Rattle.whole_sets.proofs.PartLaws.{found_parts}
use Rattle.whole_sets.proofs.parts_of.Goals as goal

pub returns : goal.returns
returns c = read c.unwrap_or.result c.unwrap_or.type_inv ∙ c.unwrap_or.ensures ∙ found_parts c.whole_part.result c.args.x c.whole_part.ensures
