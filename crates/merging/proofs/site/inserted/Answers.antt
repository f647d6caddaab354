-- `site::inserted`: the places from the site's own on are turned up by one; the site is free, so not every place is taken.
-- Assumes nothing.
use Rattle.std.proofs.Common.{◌≡◌, ℕ, ◌<◌, ◌≤◌, length, arith, rules}
use Rattle.std.proofs.lemmas.List.{places}
use Rattle.items.specs.Record.{capacity}
use Rattle.items.specs.declared.Items.{Items}
use Rattle.items.proofs.RecordLaws.{valid_shape}
use Rattle.merging.proofs.PlaceLaws.{free_room, place_cursor}
use Rattle.merging.proofs.ShiftLaws.{turned_up}
use Rattle.merging.proofs.PutLaws.{sites_end, letters_end, insert_record}
use Rattle.merging.proofs.site.inserted.Goals as goal
use Rattle.merging.proofs.site.inserted.Goals.{Start}

-- what the bounds go by
record Bounds (p : Items) (place : ℕ) : Type 0 where
  place_most : place ≤ p.count
  count_most : p.count < capacity
  sites_long : length p.sites ≡ capacity
  letters_long : length p.letters ≡ capacity

bounds : (c : Start) → Bounds c.args.p.now.items c.args.place
bounds c =
    let v = c.args.p.now.is_valid in
    let shape = valid_shape _ v in
    record {
      place_most = (place_cursor _ v c.requires.3).within;
      count_most = free_room _ v _ c.requires.0 c.requires.4;
      sites_long = shape.sites_long;
      letters_long = shape.letters_long;
    }

pub overflow_add-count : goal.overflow_add-count
overflow_add-count c = let b = bounds (goal.at.overflow_add-count c).Start in omega arith

pub slice_bounds-rotate_right-count : goal.slice_bounds-rotate_right-count
slice_bounds-rotate_right-count c = let b = bounds (goal.at.slice_bounds-rotate_right-count c).Start in omega arith

pub slice_bounds-rotate_right-start : goal.slice_bounds-rotate_right-start
slice_bounds-rotate_right-start c = let b = bounds (goal.at.slice_bounds-rotate_right-start c).Start in search rules

pub slice_bounds-rotate_right-end : goal.slice_bounds-rotate_right-end
slice_bounds-rotate_right-end c = let b = bounds (goal.at.slice_bounds-rotate_right-end c).Start in search rules

pub rotate_right-requires : goal.rotate_right-requires
rotate_right-requires c = let b = bounds (goal.at.rotate_right-requires c).Start in search (rules, places)

pub slice_bounds-rotate_right-count-2 : goal.slice_bounds-rotate_right-count-2
slice_bounds-rotate_right-count-2 c = let b = bounds (goal.at.slice_bounds-rotate_right-count-2 c).Start in omega arith

pub slice_bounds-rotate_right-start-2 : goal.slice_bounds-rotate_right-start-2
slice_bounds-rotate_right-start-2 c = let b = bounds (goal.at.slice_bounds-rotate_right-start-2 c).Start in search rules

pub slice_bounds-rotate_right-end-2 : goal.slice_bounds-rotate_right-end-2
slice_bounds-rotate_right-end-2 c = let b = bounds (goal.at.slice_bounds-rotate_right-end-2 c).Start in search rules

pub rotate_right-requires-2 : goal.rotate_right-requires-2
rotate_right-requires-2 c = let b = bounds (goal.at.rotate_right-requires-2 c).Start in search (rules, places)

pub bounds-q-place : goal.bounds-q-place
bounds-q-place c = let b = bounds (goal.at.bounds-q-place c).Start in omega arith

pub bounds-q-place-2 : goal.bounds-q-place-2
bounds-q-place-2 c = let b = bounds (goal.at.bounds-q-place-2 c).Start in omega arith

pub returns : goal.returns
returns c =
    let b = bounds (goal.at.returns c).Start in
    let r = c.requires in
    let v = c.args.p.now.is_valid in
    insert_record _ v r.0 r.1 r.2 r.3 r.4
    (turned_up _ _ _ (sites_end _ v) b.place_most b.count_most c.rotate_right.ensures.len c.rotate_right.ensures.by_index)
    (turned_up _ _ _ (letters_end _ v) b.place_most b.count_most c.rotate_right-2.ensures.len c.rotate_right-2.ensures.by_index)
