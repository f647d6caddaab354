-- `site::replaced`: one letter is another, and the sites stay.
-- Assumes nothing.
use Rattle.items.proofs.RecordLaws.{place_fits}
use Rattle.merging.proofs.PutLaws.{replace_record}
use Rattle.merging.proofs.site.replaced.Goals as goal

pub bounds-q-place : goal.bounds-q-place
bounds-q-place c = place_fits _ _ c.args.p.now.is_valid c.requires.0

pub returns : goal.returns
returns c = let r = c.requires in replace_record _ c.args.p.now.is_valid r.0 r.1 r.2
