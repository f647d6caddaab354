-- `site::removed`: the places past the one taken out are turned down by one, and zeros stand at the last.
-- Assumes nothing.
use Rattle.std.proofs.Common.{rules}
use native.Mathlib.Omega.{arith}
use Rattle.items.proofs.RecordLaws.{valid_shape}
use Rattle.merging.proofs.ShiftLaws.{turned_down}
use Rattle.merging.proofs.PutLaws.{sites_end, letters_end, remove_record}
use Rattle.merging.proofs.site.removed.Goals as goal

pub slice_bounds-rotate_left-end : goal.slice_bounds-rotate_left-end
slice_bounds-rotate_left-end c =
    let shape = valid_shape _ c.args.p.now.is_valid in
    let a = shape.sites_long in
    let b = shape.count_most in
    search rules

pub returns : goal.returns
returns c =
    let v = c.args.p.now.is_valid in
    let most = (valid_shape _ v).count_most in
    remove_record _ v c.requires (omega arith)
    (turned_down _ _ (sites_end _ v) c.requires most c.rotate_left.ensures.len c.rotate_left.ensures.by_index)
    (turned_down _ _ (letters_end _ v) c.requires most c.rotate_left-2.ensures.len c.rotate_left-2.ensures.by_index)
