-- `fill_fold_points` meets its contract: the points of the first i stripes are there.
use Prim.Native.Nat.{◌+◌, ◌*◌, ◌≤◌}
use mathlib.Core.Path.{sym, ◌∙◌}
use native.Mathlib.Nat.{mul-le-mul}
use native.Mathlib.Omega.{arith}
use lib.ListN.{length}
use borrow.Rule.Slice.PartMut.{mid_len}
use Rattle.stripe.proofs.Places.{column_inside}
use Rattle.constants.proofs.Points.{part_filled, fold_start, fold_turn, fold_done}
use Rattle.constants.proofs.fill_fold_points.Goals as goal
use Rattle.constants.proofs.fill_fold_points.Goals.{In-loop-i}

-- the points of stripe i lie in the buffer
inside : (c : In-loop-i) → let r = c.args.r in
    c.loop-i.i * r + r ≤ length c.loop-i.out
inside c =
    let r = c.args.r in
    omega (arith, column_inside c.loop-i.i _ r c.loop-i-test.true, c.loop-i.invariant.long)

-- and there are few of them
few : (c : In-loop-i) → let r = c.args.r in c.loop-i.i * r + r ≤ 255
few c =
    omega (arith, column_inside c.loop-i.i _ c.args.r c.loop-i-test.true, c.requires.1.1.1.1)

-- the exponent of the first is small
exponent : (c : In-loop-i) → c.loop-i.i * c.args.k ≤ 65025
exponent c =
    let most : c.loop-i.i ≤ 255 = omega (arith, c.loop-i-test.true, c.requires.1.1.1.0) in
    mul-le-mul most c.requires.1.0

pub loop-i-init : goal.loop-i-init
loop-i-init c = fold_start _ _ _ _ c.requires.0

pub overflow_mul-a : goal.overflow_mul-a
overflow_mul-a c = omega (arith, few c)

pub overflow_add-a : goal.overflow_add-a
overflow_add-a c = omega (arith, few c)

pub slice_bounds-descending-end : goal.slice_bounds-descending-end
slice_bounds-descending-end c = omega (arith, inside c)

pub overflow_mul-i : goal.overflow_mul-i
overflow_mul-i c = omega (arith, exponent (goal.at.overflow_mul-i c).In-loop-i)

pub overflow_add-i : goal.overflow_add-i
overflow_add-i c = omega (arith, exponent (goal.at.overflow_add-i c).In-loop-i)

pub descending-requires : goal.descending-requires
descending-requires c =
    let part = mid_len (c.loop-i.i * c.args.r) _ c.loop-i.out (inside (goal.at.descending-requires c).In-loop-i) in
    (omega (arith, part, few (goal.at.descending-requires c).In-loop-i), omega (arith, exponent (goal.at.descending-requires c).In-loop-i))

pub loop-i-preserved : goal.loop-i-preserved
loop-i-preserved c =
    let at = c.loop-i in
    let filled = part_filled _ _ _ at.out _ (inside (goal.at.loop-i-preserved c).In-loop-i) c.descending.ensures in
    fold_turn at.i c.loop-i-test.true filled at.invariant

pub shape_of-out : goal.shape_of-out
shape_of-out c = c.loop-i.invariant.long ∙ sym c.requires.0

pub returns : goal.returns
returns c = fold_done _ (omega (arith, c.requires.1.1.0)) c.loop-i-test.false c.loop-i.invariant
