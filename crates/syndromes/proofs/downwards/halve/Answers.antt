-- `halve` meets its contract, by a test of all bytes.
use mathlib.Core.Path.{ap, ◌∙◌}
use Prim.Native.Nat.{ℕ, ◌/◌}
use lib.Bits.{bit_xor}
use Rattle.syndromes.proofs.Halves.{half}
use Rattle.syndromes.proofs.downwards.halve.Goals as goal

pub returns : goal.returns
returns c =
    let x = c.args.x in
    ap (λ (y : ℕ). bit_xor (x / 2) y) c.mask.ensures ∙ half x c.ranges.x.fits
