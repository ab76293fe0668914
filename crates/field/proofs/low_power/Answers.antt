-- `low_power` meets its contract, by a test of every power below 128.
use mathlib.Core.Path.{ap, ◌∙◌}
use Prim.Native.Nat.{ℕ, ◌%◌}
use Rattle.field.proofs.Shifting.{moved, reduced, power_reduced}
use Rattle.field.proofs.low_power.Goals as goal

pub returns : goal.returns
returns c =
    let n = c.args.n in
    ap (λ (x : ℕ). reduced (moved x (n % 8))) c.eighth_power.ensures ∙ power_reduced n c.requires
