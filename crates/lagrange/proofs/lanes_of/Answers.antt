-- `lanes_of` meets its contract: the block is a copy of the part.
use native.Mathlib.Omega.{arith}
use borrow.Author.Rules.{rules}
use Rattle.lanes.proofs.Parts.{copied}
use Rattle.lagrange.proofs.lanes_of.Goals as goal

pub returns : goal.returns
returns c =
    (search rules, copied _ _ _ c.args.at c.args.w c.requires.0 (omega arith) c.copy.ensures)
