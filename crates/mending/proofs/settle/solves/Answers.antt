-- `solves` meets its contract.
use Prim.Native.Nat.{◌*◌, ◌≤◌}
use mathlib.Core.Path.{sym}
use mathlib.Core.Bool.{true≢false}
use native.Mathlib.Omega.{arith}
use native.Mathlib.Nat.{mul-le-mul}
use borrow.Author.Count.{below_more}
use Rattle.stripe.specs.Shape.{most_rows}
use Rattle.mending.proofs.settle.solves.Goals as goal

pub overflow_mul-p : goal.overflow_mul-p
overflow_mul-p c =
    let most : c.args.p.step * c.loop-v.v ≤ most_rows * most_rows = mul-le-mul {m₂ = most_rows} c.requires.1.1
    (omega (arith, c.loop-v-test.true, c.requires.0)) in
    omega arith

pub overflow_add-p : goal.overflow_add-p
overflow_add-p c =
    let most : c.args.p.step * c.loop-v.v ≤ most_rows * most_rows = mul-le-mul {m₂ = most_rows} c.requires.1.1
    (omega (arith, c.loop-v-test.true, c.requires.0)) in
    omega (arith, c.requires.1.0)

pub returns-then-p-v : goal.returns-then-p-v
returns-then-p-v c =
    record {
      so = λ t. (c.loop-v.v, (c.loop-v-test.true, c.if-p-v.true));
      not_so = λ t. absurd (true≢false t);
    }

pub loop-v-preserved : goal.loop-v-preserved
loop-v-preserved c = below_more _ _ c.loop-v.invariant c.if-p-v.false

pub returns : goal.returns
returns c = record { so = λ t. absurd (true≢false (sym t)); not_so = λ t w. c.loop-v.invariant w.0 (omega (arith, c.loop-v-test.false, w.1.0)) w.1.1 }
