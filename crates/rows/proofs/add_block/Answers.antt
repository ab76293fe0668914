-- `add_block` meets its contract: the part comes back with the block added.
use native.Mathlib.Omega.{arith}
use Rattle.rows.proofs.Added.{added_block}
use Rattle.rows.proofs.add_block.Goals as goal

pub returns : goal.returns
returns c =
    let a = c.args in
    added_block _ a.k a.l a.j a.from a.at a.n _ _ _ c.requires.1.1.1.1.1 (omega arith)
    c.row_block-b.ensures c.add.ensures
