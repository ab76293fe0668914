-- `put` meets its contract: the part comes back with the first bytes of the block.
use native.Mathlib.Omega.{arith}
use Rattle.rows.proofs.Filled.{put_copied}
use Rattle.rows.proofs.put.Goals as goal

pub returns : goal.returns
returns c =
    let a = c.args in
    put_copied _ _ _ a.at a.n c.requires.0 (omega arith) c.copy.ensures
