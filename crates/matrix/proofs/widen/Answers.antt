-- `widen` meets its contract: the first c sums are there.
use native.Mathlib.Omega.{arith}
use Rattle.matrix.proofs.Parts.{widened_start, widened_turn, widened_done}
use Rattle.matrix.proofs.widen.Goals as goal

pub loop-c-init : goal.loop-c-init
loop-c-init c = widened_start _ _ _ _

pub loop-c-preserved : goal.loop-c-preserved
loop-c-preserved c =
    let more = c.loop-c-test.true in
    let at = c.loop-c in
    let sum = c.add.ensures in
    let put = c.put.ensures in
    widened_turn _ _ at.c _ _ _ _ _ _ more (omega arith) (omega arith) at.invariant c.block-a.ensures sum put

pub returns : goal.returns
returns c = widened_done _ _ _ _ _ _ (omega arith) c.loop-c.invariant
