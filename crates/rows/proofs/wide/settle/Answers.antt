-- `settle` meets its contract: the last four columns are added to the first four, and the last one to the first.
use Rattle.rows.proofs.Ring.{settled}
use Rattle.rows.proofs.wide.settle.Goals as goal

pub returns : goal.returns
returns c =
    settled _ _ _ _ c.requires c.copy.ensures c.add.ensures c.add-2.ensures
