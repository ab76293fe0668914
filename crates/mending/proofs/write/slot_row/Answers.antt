-- `slot_row` meets its contract.
use Prim.Native.Nat.{◌+◌, ◌*◌, ◌-◌, ◌≤◌}
use mathlib.Core.Path.{sym, ap}
use mathlib.Core.Bool.{Bool, cond}
use native.Mathlib.Omega.{arith}
use native.Mathlib.Nat.{mul-le-mul}
use borrow.Author.Tests.{lt-ltb, le-ltb}
use Rattle.stripe.specs.Shape.{most_rows}
use Rattle.mending.proofs.write.slot_row.Goals as goal

pub overflow_mul-result : goal.overflow_mul-result
overflow_mul-result c =
    let most : c.args.p.step * c.args.v ≤ most_rows * most_rows = mul-le-mul c.requires.1.0 c.requires.1.1.0 in
    omega arith

pub overflow_add-result : goal.overflow_add-result
overflow_add-result c =
    let most : c.args.p.step * c.args.v ≤ most_rows * most_rows = mul-le-mul c.requires.1.0 c.requires.1.1.0 in
    omega (arith, c.requires.0)

pub returns-then-v-p : goal.returns-then-v-p
returns-then-v-p c =
    let a = c.args in
    sym (ap (λ (b : Bool). cond b (a.p.first + a.p.step * a.v) (a.i - a.s.k)) (lt-ltb _ _ c.if-v-p.true))

pub overflow_sub-result : goal.overflow_sub-result
overflow_sub-result c = c.requires.1.1.1 c.if-v-p.false

pub returns : goal.returns
returns c =
    let a = c.args in
    sym (ap (λ (b : Bool). cond b (a.p.first + a.p.step * a.v) (a.i - a.s.k)) (le-ltb _ _ c.if-v-p.false))
