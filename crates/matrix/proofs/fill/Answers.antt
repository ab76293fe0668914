-- `fill` meets its contract: the first i columns are in at every place.
use native.Mathlib.Omega.{arith}
use Rattle.matrix.proofs.Blocks.{held_none, held_done}
use Rattle.matrix.proofs.fill.Goals as goal

pub loop-i-init : goal.loop-i-init
loop-i-init c = held_done _ _ _ _ _ _ _ _ 0 _ (omega arith) (held_none _ _ _ _ _ _ _ _)

pub slab-requires : goal.slab-requires
slab-requires c =
    let held = held_done _ _ _ _ _ _ _ _ _ c.loop-i.i (omega arith) c.loop-i.invariant in
    (omega arith, (omega arith, (omega arith, (omega arith, (omega arith, (c.requires.1.1.0, (omega arith, held)))))))

pub loop-i-preserved : goal.loop-i-preserved
loop-i-preserved c = held_done _ _ _ _ _ _ _ _ _ _ (omega arith) c.slab.ensures

pub returns : goal.returns
returns c = held_done _ _ _ _ _ _ _ _ _ _ (omega arith) c.loop-i.invariant
