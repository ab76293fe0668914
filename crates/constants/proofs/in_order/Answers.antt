-- `in_order` meets its contract: the first i numbers are there.
use Prim.Native.Nat.{ℕ, ◌%◌}
use native.Mathlib.Omega.{arith}
use Rattle.constants.proofs.Points.{tabulated}
use Rattle.constants.proofs.in_order.Goals as goal

pub returns : goal.returns
returns c =
    let at = c.loop-i in
    tabulated (λ (i : ℕ). i % 256) _ _ at.auto.out (λ q h. at.invariant q (omega arith))
