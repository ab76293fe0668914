-- `packed` meets its contract: no byte of the sum carries into the next.
use Rattle.matrix.proofs.Digits.{bits_added}
use Rattle.matrix.proofs.packed.Goals as goal

pub returns : goal.returns
returns c =
    bits_added _ _ _ _ _ _ _ _ c.spread.ensures.0 c.spread-2.ensures.0 c.spread-3.ensures.0 c.spread-4.ensures.0
