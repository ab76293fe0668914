-- `rows_block` meets its contract: the first s rows are there.
use Prim.Native.Nat.{◌+◌, ◌*◌, ◌≤◌}
use native.Mathlib.Omega.{arith}
use native.Mathlib.Nat.{mul-le-mul_right, suc-mul}
use lib.ListN.{length}
use Rattle.matrix.proofs.Blocks.{rowed_start, rowed_turn, rowed_done}
use borrow.Author.Rules.{rules}
use Rattle.matrix.proofs.rows_block.Goals as goal
use Rattle.matrix.proofs.rows_block.Goals.{In-loop-s}

-- a row lies in the buffer
inside : (c : In-loop-s) → let count = c.args.count in
    c.loop-s.s * count + count ≤ length c.loop-s.out
inside c =
    let h = c.requires in
    let count = c.args.count in
    omega (arith, c.loop-s.invariant.long, h.1.1.1.1.1.1.1.0, mul-le-mul_right count c.loop-s-test.true, suc-mul c.loop-s.s count)

pub loop-s-init : goal.loop-s-init
loop-s-init c = rowed_start _ _ _ _ _ _ _ _

pub straight-y-requires : goal.straight-y-requires
straight-y-requires c =
    let h = c.requires in
    let r = h.1.1.1.1.1.1.1.1 in
    (h.0, (omega arith, (h.1.1.1.0, (h.1.1.1.1.0, (r.0, r.1 c.loop-s.s c.loop-s-test.true)))))

pub overflow_mul-s-in-loop-s : goal.overflow_mul-s-in-loop-s
overflow_mul-s-in-loop-s c = omega (arith, inside (goal.at.overflow_mul-s-in-loop-s c).In-loop-s)

pub overflow_add-s : goal.overflow_add-s
overflow_add-s c = omega (arith, inside (goal.at.overflow_add-s c).In-loop-s)

pub lay-requires : goal.lay-requires
lay-requires c = (omega (arith, inside (goal.at.lay-requires c).In-loop-s), search rules)

pub loop-s-preserved : goal.loop-s-preserved
loop-s-preserved c =
    let at = c.loop-s in
    let h = c.requires.1.1.1.1.1 in
    let value = c.straight-y.ensures in
    rowed_turn _ _ _ _ c.args.count c.args.at _ at.s _ _ _ _ h.1.0 h.0 at.invariant value c.lay.ensures

pub returns : goal.returns
returns c = rowed_done _ _ _ _ _ _ _ _ _ _ _ (omega arith) c.loop-s.invariant
