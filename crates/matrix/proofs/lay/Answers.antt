-- `lay` meets its contract: set or added.
use Rattle.matrix.proofs.Blocks.{part_fresh, part_later}
use Rattle.matrix.proofs.lay.Goals as goal

pub returns-then-fresh : goal.returns-then-fresh
returns-then-fresh c = part_fresh _ _ _ _ _ _ c.if-fresh.true c.put.ensures

pub returns : goal.returns
returns c = part_later _ _ _ _ _ _ c.if-fresh.false c.put_more.ensures
