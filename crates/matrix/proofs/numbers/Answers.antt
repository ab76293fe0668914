-- `numbers` meets its contract: the numbers of the b lowest bits are there, and those of the other bits are in hand.
use native.Mathlib.Omega.{arith}
use Rattle.matrix.proofs.Digits.{left_start, left_turn, numbered_start, numbered_turn, numbered_done}
use Rattle.matrix.proofs.numbers.Goals as goal

pub loop-b-init : goal.loop-b-init
loop-b-init c = (
  left_start _ _ _ _ _ _ _ c.requires.1.0 c.weight-x.ensures c.weight-y.ensures c.weight-z.ensures c.weight-v.ensures
      c.packed-p.ensures,
  numbered_start _ _ _ _,
)

pub loop-b-preserved : goal.loop-b-preserved
loop-b-preserved c =
    let at = c.loop-b in
    let one = left_turn _ _ at.b _ c.requires.1.0 c.loop-b-test.true at.invariant.0 in
    (one.1, numbered_turn _ c.args.at c.args.n at.b _ _ _ (omega arith) at.invariant.1 one.0)

pub returns : goal.returns
returns c = numbered_done _ _ _ _ _ _ (omega arith) c.loop-b.invariant.1
