-- `merge::merged`: every site below the last one taken is done; the places that are left become fewer with each step.
-- Assumes nothing.
use Rattle.std.proofs.Common.{◌≡◌, ◌<◌, arith}
use Rattle.letters.specs.Matrices.{letters_of}
use Rattle.letters.specs.Single.{letter_of, power_of, times}
use Rattle.letters.proofs.TableLaws.{closed}
use Rattle.items.specs.Lists.{at}
use Rattle.items.proofs.RecordLaws.{valid_shape}
use Rattle.merging.proofs.StepLaws.{shared_ok, shared_value}
use Rattle.merging.proofs.MergeLaws.{merging_none, merging_within, merging_same, merging_power, merging_items}
use Rattle.merging.proofs.MergeLaws.{Turn, left_place, right_place, left_code, right_code}
use Rattle.merging.proofs.MergeLaws.{merging_room, merging_left, merging_right, merging_powers, merging_shared, merging_free}
use Rattle.merging.proofs.merge.merged.Goals as goal
use Rattle.merging.proofs.merge.merged.Goals.{After-next_site-b, After-unwrap-x, then-x-gt0, else-x-gt0}

-- what is known once both next sites are read
turn : (s : After-next_site-b) → Turn (letters_of s.args.kind) s.args.left.now.items s.args.right.now.items s.loop-i.i s.loop-i.j
    s.loop-i.count s.loop-i.sites s.loop-i.letters s.loop-i.power
    s.next_site-a.result s.next_site-b.result
turn s =
    record {
      closed = closed _;
      left_valid = s.args.left.now.is_valid;
      right_valid = s.args.right.now.is_valid;
      known = s.loop-i.invariant;
      left_next = s.next_site-a.ensures;
      right_next_lem = s.next_site-b.ensures;
      unread = s.loop-i-test.true;
    }

-- the product of the letters of a site that both occupy
product : (s : After-unwrap-x) →
    let l = at s.args.left.now.items.letters s.loop-i.i in
    let r = at s.args.right.now.items.letters s.loop-i.j in
    l < 4 → r < 4
    → (s.unwrap-x.result.letter ≡ letter_of (times (letters_of s.args.kind) l r)) × (s.unwrap-x.result.power ≡ power_of (times (letters_of s.args.kind) l r))
product s h k = shared_value _ _ _ h k _ s.multiply.ensures _ s.unwrap-x.ensures

pub overflow_add-total : goal.overflow_add-total
overflow_add-total c = omega (arith, (valid_shape _ c.args.left.now.is_valid).count_most, (valid_shape _ c.args.right.now.is_valid).count_most)

pub loop-i-init : goal.loop-i-init
loop-i-init c = merging_none _ (closed _) _ _ c.args.left.now.is_valid c.args.right.now.is_valid

pub overflow_add-i : goal.overflow_add-i
overflow_add-i c = omega (arith, merging_within _ (closed _) _ _ c.args.left.now.is_valid c.args.right.now.is_valid c.loop-i.invariant)

pub next_site-a-requires : goal.next_site-a-requires
next_site-a-requires c = (valid_shape _ c.args.left.now.is_valid).count_most

pub next_site-b-requires : goal.next_site-b-requires
next_site-b-requires c = (valid_shape _ c.args.right.now.is_valid).count_most

pub bounds-p-i : goal.bounds-p-i
bounds-p-i c = left_place (turn (goal.at.bounds-p-i c).After-next_site-b) (omega (arith, c.if-a-b.true))

pub bounds-sites-count : goal.bounds-sites-count
bounds-sites-count c = merging_room (turn (goal.at.bounds-sites-count c).After-next_site-b)

pub bounds-p-i-then-a-b : goal.bounds-p-i-then-a-b
bounds-p-i-then-a-b c = left_place (turn (goal.at.bounds-p-i-then-a-b c).After-next_site-b) (omega (arith, c.if-a-b.true))

pub bounds-letters-count : goal.bounds-letters-count
bounds-letters-count c = merging_room (turn (goal.at.bounds-letters-count c).After-next_site-b)

pub overflow_add-count : goal.overflow_add-count
overflow_add-count c = omega (arith, merging_room (turn (goal.at.overflow_add-count c).After-next_site-b))

pub overflow_add-i-then-a-b : goal.overflow_add-i-then-a-b
overflow_add-i-then-a-b c = omega (arith, left_place (turn (goal.at.overflow_add-i-then-a-b c).After-next_site-b) (omega (arith, c.if-a-b.true)))

pub loop-i-smaller-then-a-b : goal.loop-i-smaller-then-a-b
loop-i-smaller-then-a-b c = omega (arith, (turn (goal.at.loop-i-smaller-then-a-b c).After-next_site-b).unread)

pub loop-i-preserved-then-a-b : goal.loop-i-preserved-then-a-b
loop-i-preserved-then-a-b c = merging_left (turn (goal.at.loop-i-preserved-then-a-b c).After-next_site-b) c.if-a-b.true

pub bounds-q-j : goal.bounds-q-j
bounds-q-j c = right_place (turn (goal.at.bounds-q-j c).After-next_site-b) (omega (arith, c.if-b-a.true))

pub bounds-sites-count-then-b-a : goal.bounds-sites-count-then-b-a
bounds-sites-count-then-b-a c = merging_room (turn (goal.at.bounds-sites-count-then-b-a c).After-next_site-b)

pub bounds-q-j-then-b-a : goal.bounds-q-j-then-b-a
bounds-q-j-then-b-a c = right_place (turn (goal.at.bounds-q-j-then-b-a c).After-next_site-b) (omega (arith, c.if-b-a.true))

pub bounds-letters-count-then-b-a : goal.bounds-letters-count-then-b-a
bounds-letters-count-then-b-a c = merging_room (turn (goal.at.bounds-letters-count-then-b-a c).After-next_site-b)

pub overflow_add-count-then-b-a : goal.overflow_add-count-then-b-a
overflow_add-count-then-b-a c = omega (arith, merging_room (turn (goal.at.overflow_add-count-then-b-a c).After-next_site-b))

pub overflow_add-j : goal.overflow_add-j
overflow_add-j c = omega (arith, right_place (turn (goal.at.overflow_add-j c).After-next_site-b) (omega (arith, c.if-b-a.true)))

pub loop-i-smaller-then-b-a : goal.loop-i-smaller-then-b-a
loop-i-smaller-then-b-a c = omega (arith, (turn (goal.at.loop-i-smaller-then-b-a c).After-next_site-b).unread)

pub loop-i-preserved-then-b-a : goal.loop-i-preserved-then-b-a
loop-i-preserved-then-b-a c = merging_right (turn (goal.at.loop-i-preserved-then-b-a c).After-next_site-b) c.if-b-a.true

pub bounds-p-i-else-b-a : goal.bounds-p-i-else-b-a
bounds-p-i-else-b-a c = left_place (turn (goal.at.bounds-p-i-else-b-a c).After-next_site-b) c.if-b-a.false

pub bounds-q-j-else-b-a : goal.bounds-q-j-else-b-a
bounds-q-j-else-b-a c = right_place (turn (goal.at.bounds-q-j-else-b-a c).After-next_site-b) c.if-a-b.false

pub unwrap-x-requires : goal.unwrap-x-requires
unwrap-x-requires c =
    let t = turn (goal.at.unwrap-x-requires c).After-next_site-b in
    shared_ok _ _ _ (left_code t c.if-b-a.false) (right_code t c.if-a-b.false) _ c.multiply.ensures

pub bounds-p-i-then-x-gt0 : goal.bounds-p-i-then-x-gt0
bounds-p-i-then-x-gt0 c = left_place (turn (goal.at.bounds-p-i-then-x-gt0 c).After-next_site-b) c.if-b-a.false

pub bounds-sites-count-then-x-gt0 : goal.bounds-sites-count-then-x-gt0
bounds-sites-count-then-x-gt0 c = merging_room (turn (goal.at.bounds-sites-count-then-x-gt0 c).After-next_site-b)

pub bounds-letters-count-then-x-gt0 : goal.bounds-letters-count-then-x-gt0
bounds-letters-count-then-x-gt0 c = merging_room (turn (goal.at.bounds-letters-count-then-x-gt0 c).After-next_site-b)

pub overflow_add-count-then-x-gt0 : goal.overflow_add-count-then-x-gt0
overflow_add-count-then-x-gt0 c = omega (arith, merging_room (turn (goal.at.overflow_add-count-then-x-gt0 c).After-next_site-b))

pub overflow_add-power : goal.overflow_add-power
overflow_add-power c =
    let t = turn (goal.at.overflow_add-power c).After-next_site-b in
    let r = product (goal.at.overflow_add-power c).After-unwrap-x (left_code t c.if-b-a.false) (right_code t c.if-a-b.false) in
    omega (arith, merging_powers t c.if-a-b.false c.if-b-a.false r.0 r.1)

pub overflow_add-i-else-b-a : goal.overflow_add-i-else-b-a
overflow_add-i-else-b-a c =
    omega (arith, left_place (turn (goal.at.overflow_add-i-else-b-a c).After-next_site-b) c.if-b-a.false)

pub overflow_add-j-else-b-a : goal.overflow_add-j-else-b-a
overflow_add-j-else-b-a c =
    omega (arith, right_place (turn (goal.at.overflow_add-j-else-b-a c).After-next_site-b) c.if-a-b.false)

pub loop-i-smaller : goal.loop-i-smaller
loop-i-smaller c = omega (arith, (turn (goal.at.loop-i-smaller c).After-next_site-b).unread)

pub loop-i-preserved : goal.loop-i-preserved
loop-i-preserved c =
    let t = turn (goal.at.loop-i-preserved c).After-next_site-b in
    let r = product (goal.at.loop-i-preserved c).After-unwrap-x (left_code t c.if-b-a.false) (right_code t c.if-a-b.false) in
    elim c.if-x-gt0.branch [
      | then-x-gt0 w ↦ merging_same (merging_shared t c.if-a-b.false c.if-b-a.false r.0 r.1 w.if-x-gt0.true) w.sites-is w.letters-is w.count-is
      | else-x-gt0 w ↦ merging_same (merging_free t c.if-a-b.false c.if-b-a.false r.0 r.1 w.if-x-gt0.false) w.sites-is w.letters-is w.count-is
    ]

pub returns : goal.returns
returns c =
    record {
      power = merging_power _ (closed _) _ _ c.args.left.now.is_valid c.args.right.now.is_valid c.loop-i.invariant c.loop-i-test.false;
      items = merging_items _ (closed _) _ _ c.args.left.now.is_valid c.args.right.now.is_valid c.loop-i.invariant c.loop-i-test.false;
    }
