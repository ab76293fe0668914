-- `put_more` meets its contract: the part comes back with the first bytes of the block added.
use native.Mathlib.Omega.{arith}
use Rattle.matrix.proofs.Parts.{part_onto, part_same}
use Rattle.matrix.proofs.put_more.Goals as goal

pub returns-then-w-lt64 : goal.returns-then-w-lt64
returns-then-w-lt64 c = part_onto _ _ _ _ c.args.at c.args.w c.requires.0 (omega arith) c.add.ensures

pub returns : goal.returns
returns c = part_same _ _ _ _ _ 64 _ (omega arith) (part_onto _ _ _ _ c.args.at 64 (omega arith) (omega arith) c.add-2.ensures)
