-- The word copied to its part.
use native.Mathlib.Omega.{arith}
use Rattle.text.proofs.Pieces.{part_put}
use Rattle.text.proofs.put.put_word.Goals as goal

pub returns-clause-out_after : goal.returns-clause-out_after
returns-clause-out_after c =
    part_put c.args.out.now _ c.args.word.now c.args.at _ c.copy_from_slice.ensures.after (omega arith)
