-- `fill_block1` meets its contract: the block extends its row.
use Rattle.rows.proofs.Filled.{filled_1}
use Rattle.rows.proofs.fill_block1.Goals as goal

pub returns : goal.returns
returns c =
    let h = c.requires in
    let v = c.row_block-b.ensures in
    filled_1 _ _ _ _ _ h.1.1.0 _ _ _ v c.put.ensures h.1.1.1.1
