-- `fill_part` meets its contract: the block extends its row and leaves the others.
use Rattle.rows.proofs.Filled.{part_more}
use Rattle.rows.proofs.fill_part.Goals as goal

pub returns : goal.returns
returns c =
    let h = c.requires in
    let row = c.row_block-c.ensures in
    let put = c.put.ensures in (
      put.long,
      part_more _ _ _ c.args.j c.args.from c.args.n _ _ _ h.1.1.1.0 row put h.1.1.1.1.1.1,
    )
