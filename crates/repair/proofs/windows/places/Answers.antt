-- `places` meets its contract: as many whole blocks as there is room for, and room for one at least.
use Prim.Native.Nat.{ℕ, ◌*◌, ◌/◌, ◌≤◌}
use native.Mathlib.Nat.{le-div_iff_mul-le, mul-div-le, mul-le-mul_left, div-mul-le_self, div-le_self}
use native.Mathlib.Omega.{arith}
use Rattle.repair.proofs.windows.places.Goals as goal

fit : (n : ℕ) → 1 ≤ n → n ≤ 16 → (64 ≤ 2048 / n / 64 * 64) × (n * (2048 / n / 64 * 64) ≤ 2048)
fit n some most =
    let few : 128 ≤ 2048 / n = (le-div_iff_mul-le some).1 (omega arith) in
    (omega arith, omega (arith, mul-le-mul_left n (div-mul-le_self (2048 / n) 64), mul-div-le 2048 n))

pub overflow_mul-result : goal.overflow_mul-result
overflow_mul-result c = omega (arith, div-le_self 2048 c.args.columns)

pub returns : goal.returns
returns c = fit _ c.requires.0 c.requires.1
