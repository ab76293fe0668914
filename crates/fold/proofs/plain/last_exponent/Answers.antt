-- `last_exponent` does no sum or product that does not fit: f is at least 1, and both numbers are small.
use Prim.Native.Nat.{◌-◌, ◌≤◌}
use native.Mathlib.Nat.{mul-le-mul}
use native.Mathlib.Omega.{arith}
use Rattle.fold.proofs.plain.last_exponent.Goals as goal

pub overflow_mul-result : goal.overflow_mul-result
overflow_mul-result c =
    let few : c.args.f - 1 ≤ 15 = omega (arith, c.requires.1.0) in
    omega (arith, mul-le-mul few c.requires.1.1)
