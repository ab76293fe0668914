-- `fill_wide_block` meets its contract: each block extends its row.
use Rattle.rows.proofs.Filled.{filled_3}
use Rattle.rows.proofs.wide.fill_wide_block.Goals as goal

pub returns : goal.returns
returns c =
    let put = c.put in
    let put2 = c.put-2 in
    let h = c.requires in
    let v = c.wide3-v.ensures in
    filled_3 _ _ _ _ _ h.1.1.0 _ _ _ _ v.0 v.1.0 put.ensures _ _ _ v.1.1 put2.ensures c.put-3.ensures h.1.1.1.1
