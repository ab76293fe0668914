-- `clear` meets its contract.
use borrow.Author.Rules.{rules}
use Prim.Native.Nat.{◌+◌, ◌*◌, ◌-◌, ◌≤◌}
use mathlib.Core.Logic.{inr}
use native.Mathlib.Omega.{arith}
use native.Mathlib.Nat.{mul-le-mul_right}
use lib.ListN.{length}
use Rattle.products.proofs.Mixing.{Disjoint, within_made}
use Rattle.mending.proofs.Slots.{clearing_start, clearing_turn, clearing_done}
use Rattle.mending.proofs.solve.clear.Goals as goal

pub loop-u-init : goal.loop-u-init
loop-u-init c = (search rules, clearing_start _ _ _ _ _ _)

pub overflow_mul-to : goal.overflow_mul-to
overflow_mul-to c = let w = c.requires in omega (arith, w.0.room (c.loop-u.u - 1) (omega arith), w.0.small)

pub overflow_add-to : goal.overflow_add-to
overflow_add-to c = let w = c.requires in omega (arith, w.0.room (c.loop-u.u - 1) (omega arith), w.0.small)

pub overflow_sub-to : goal.overflow_sub-to
overflow_sub-to c =
    let some : 1 ≤ c.loop-u.u - 1 = omega (arith, c.loop-u-test.true) in
    omega (arith, mul-le-mul_right c.args.d some)

pub loop-u-preserved : goal.loop-u-preserved
loop-u-preserved c =
    let loop-test = c.loop-u-test in
    let mix = c.mix in
    let a = c.args in
    let t = c.loop-u in
    let w = c.requires in
    let r = w.0.room (t.u - 1) (omega arith) in
    let some : 1 ≤ t.u - 1 = omega (arith, loop-test.true) in
    let back = mul-le-mul_right a.d some in
    let far : Disjoint (a.at + (t.u - 1) * a.d) (a.at + (t.u - 1) * a.d - a.d) a.n (length t.slots) = record
    { first = omega (arith, r, t.invariant.1.long); second = omega (arith, r, t.invariant.1.long); clear = inr (omega (arith, w.0.wide, back)) } in (
      omega (arith, loop-test.true),
      clearing_turn a.c a.e a.at a.d a.n a.slots.now t.slots mix.new.a t.u (t.u - 1)
          (omega arith) (omega (arith, loop-test.true)) (omega arith) w.0.wide t.invariant.1
          (within_made far mix.ensures),
    )

pub shape_of-slots : goal.shape_of-slots
shape_of-slots c = c.loop-u.invariant.1.long

pub returns : goal.returns
returns c = clearing_done _ _ _ _ _ _ _ _ c.loop-u-test.false c.loop-u.invariant.0 c.loop-u.invariant.1
