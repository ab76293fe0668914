-- `plus` meets its contract: the part comes back with the block added.
use mathlib.Core.Path.{◌≡◌}
use native.Mathlib.Omega.{arith}
use Rattle.syndromes.proofs.Upwards.{plus_block, plus_by}
use Rattle.syndromes.proofs.apart.plus.Goals as goal

pub returns-then-n-lt64 : goal.returns-then-n-lt64
returns-then-n-lt64 c =
    plus_block _ _ _ c.args.at c.args.n c.requires.0 (omega arith) c.add.ensures

pub returns : goal.returns
returns c =
    let whole : c.args.n ≡ 64 = omega arith in
    plus_by _ _ _ _ _ _ whole (plus_block _ _ _ c.args.at 64 (omega arith) (omega arith) c.add-2.ensures)
