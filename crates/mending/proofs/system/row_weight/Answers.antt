-- `row_weight` meets its contract.
use native.Mathlib.Omega.{arith}
use lib.ListN.{get_or}
use Rattle.mending.proofs.Posed.{small_product}
use Rattle.mending.proofs.system.row_weight.Goals as goal

pub overflow_sub-at : goal.overflow_sub-at
overflow_sub-at c = (c.requires.1.1.1 c.args.v c.if-p-v.false).0

pub overflow_mul-at : goal.overflow_mul-at
overflow_mul-at c =
    let h = (c.requires.1.1.1 c.args.v c.if-p-v.false).1 in
    omega (arith, small_product (get_or c.args.p.lost.at c.args.v 0) c.args.x c.args.j h c.requires.1.1.0)
