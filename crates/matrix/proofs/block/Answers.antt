-- `block` meets its contract: the block is a copy of the part.
use native.Mathlib.Omega.{arith}
use Rattle.lanes.proofs.Parts.{copied}
use Rattle.matrix.proofs.block.Goals as goal

pub returns-then-w-lt64 : goal.returns-then-w-lt64
returns-then-w-lt64 c = copied _ _ _ c.args.at c.args.w c.requires.0 (omega arith) c.copy.ensures

pub returns : goal.returns
returns c = λ q h. copied _ _ _ c.args.at 64 (omega arith) (omega arith) c.copy-2.ensures q (omega arith)
