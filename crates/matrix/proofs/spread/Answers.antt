-- `spread` meets its contract: a computed test of every byte.
use Prim.Native.Nat.{◌*◌}
use mathlib.Core.Path.{ap, ◌∙◌}
use native.Mathlib.Omega.{arith}
use lib.Bits.{and_le_r}
use Rattle.matrix.proofs.Digits.{spread_of, spread_most, spread_bits}
use Rattle.matrix.proofs.spread.Goals as goal

pub overflow_add-result : goal.overflow_add-result
overflow_add-result c = omega (arith, and_le_r (c.from.result * 0x0101_0101_0101_0101) 0x8040_2010_0804_0201)

pub returns : goal.returns
returns c =
    (ap spread_of c.from.ensures ∙ spread_bits c.args.w (omega arith), spread_most c.from.result)
