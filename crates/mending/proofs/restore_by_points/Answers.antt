-- `restore_by_points` meets its contract: crate `repair` mends the stripe.
use mathlib.Core.Path.{sym}
use lib.Seq.{length-take-le}
use Rattle.lost.specs.Lost.{lost_list}
use Rattle.mending.proofs.Pointed.{room_for, few_lost, repaired_restored}
use Rattle.mending.proofs.restore_by_points.Goals as goal

pub slice_bounds-at-end : goal.slice_bounds-at-end
slice_bounds-at-end c = room_for c.args.s c.args.lost c.requires.0

pub slice_bounds-repair-end : goal.slice_bounds-repair-end
slice_bounds-repair-end c = sym (length-take-le _ _ (room_for c.args.s c.args.lost c.requires.0))

pub returns : goal.returns
returns c =
    let ready = c.requires.0 in
    repaired_restored c.args.s ready.shape c.requires.1.0 (lost_list c.args.lost) ready.ascend (few_lost c.args.s c.args.lost ready)
    c.args.stripe.now _ _ c.requires.1.1 c.repair.ensures
