-- One term more (`turns_more`); then all of them, with room for three contributions of each (`turns_row`).
use Prim.Native.Nat.{◌*◌, ◌≤◌}
use native.Mathlib.Omega.{arith}
use mathlib.Core.Path.{◌≡◌, ap, ◌∙◌}
use lib.ListN.{length}
use Rattle.rows.specs.Buffers.{most_entries}
use Rattle.rows.specs.Entries.{contributions_of}
use Rattle.rows.specs.Floats.{floats}
use Rattle.terms.specs.Keyed.{concat_map}
use Rattle.contributions.proofs.TurnLaws.{turns_none, turns_more, turns_row, length-turns}
use Rattle.contributions.proofs.ValueLaws.{noise-count}
use Rattle.open_rows.proofs.HandedLaws.{noise_given, noises_given}
use Rattle.open_rows.proofs.given.pairs_given.Goals.{After-loop-t}
use Rattle.open_rows.proofs.given.pairs_given.Goals as goal

pub loop-t-init : goal.loop-t-init
loop-t-init c = turns_none (noise_given c.args.spins c.args.row) c.new-all.ensures

pub loop-t-preserved : goal.loop-t-preserved
loop-t-preserved c = turns_more (noise_given c.args.spins c.args.row) c.loop-t.invariant _ c.loop-t-test.true c.add.ensures.list c.of_noise.ensures

-- all of them are there
all_given : (c : After-loop-t) → contributions_of c.loop-t.all ≡ concat_map (noise_given c.args.spins c.args.row) c.as_slice-t-items.result.now
all_given c =
    let room : 3 * length c.as_slice-t-items.result.now ≤ most_entries = omega (arith, c.as_slice-t-items.ensures.fits) in
    turns_row (noise_given c.args.spins c.args.row) 3 (λ t. noise-count floats _ _ _ _ _) c.loop-t.invariant c.loop-t-test.false room

pub returns-clause-few : goal.returns-clause-few
returns-clause-few c =
    omega (
      arith,
      c.as_slice-t-items.ensures.fits,
      ap length (all_given c),
      length-turns (noise_given c.args.spins c.args.row) 3 (λ t. noise-count floats _ _ _ _ _) c.as_slice-t-items.result.now,
    )

pub returns-clause-given : goal.returns-clause-given
returns-clause-given c l e k =
    all_given c
    ∙ ap (concat_map (noise_given c.args.spins c.args.row)) c.as_slice-t-items.ensures.value
    ∙ noises_given c.args.spins c.args.row c.args.pairs.now.items l e k
