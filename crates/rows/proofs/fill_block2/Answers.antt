-- `fill_block2` meets its contract: each block extends its row.
use Rattle.rows.proofs.Filled.{filled_2}
use Rattle.rows.proofs.fill_block2.Goals as goal

pub returns : goal.returns
returns c =
    let put = c.put in
    let h = c.requires in
    let v = c.block2-v.ensures in
    filled_2 _ _ _ _ _ h.1.1.0 _ _ _ _ v.0 v.1 put.ensures _ c.put-2.ensures h.1.1.1.1
