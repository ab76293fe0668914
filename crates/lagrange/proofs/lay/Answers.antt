-- `lay` meets its contract: the first v rows are laid out.
use Prim.Native.Nat.{◌+◌, ◌*◌, ◌≤◌}
use native.Mathlib.Nat.{mul-le-mul_right, suc-mul}
use native.Mathlib.Omega.{arith}
use lib.ListN.{length}
use Rattle.lagrange.proofs.Lanes.{laid_start, laid_turn, laid_done}
use Rattle.lagrange.proofs.lay.Goals as goal
use Rattle.lagrange.proofs.lay.Goals.{In-loop-v}

-- row v lies in the buffer
inside : (c : In-loop-v) → let m = c.args.m in c.loop-v.v * m + m ≤ length c.loop-v.out
inside c =
    let m = c.args.m in
    omega (arith, c.loop-v.invariant.long, c.requires.1.1.1.1, mul-le-mul_right m c.loop-v-test.true, suc-mul c.loop-v.v m)

pub loop-v-init : goal.loop-v-init
loop-v-init c = laid_start _ _ _ _ _

pub overflow_mul-o : goal.overflow_mul-o
overflow_mul-o c = omega (arith, inside c)

pub overflow_add-o : goal.overflow_add-o
overflow_add-o c = omega (arith, inside c)

pub overflow_add-o-in-loop-v : goal.overflow_add-o-in-loop-v
overflow_add-o-in-loop-v c = omega (arith, inside c)

pub slice_bounds-copy-end : goal.slice_bounds-copy-end
slice_bounds-copy-end c = omega (arith, inside c)

pub loop-v-preserved : goal.loop-v-preserved
loop-v-preserved c =
    let h = c.requires.1 in
    let at = c.loop-v in
    let fits = inside (goal.at.loop-v-preserved c).In-loop-v in
    laid_turn c.args.m c.args.at c.args.w at.v h.1.1.0 h.0 (omega (arith, c.told-rows, c.requires.0)) fits c.copy.ensures at.invariant

pub returns : goal.returns
returns c = laid_done _ _ c.loop-v-test.false c.loop-v.invariant
