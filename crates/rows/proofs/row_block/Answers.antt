-- `row_block` meets its contract: the array holds row j of the columns from number i on.
use Prim.Native.Nat.{◌-◌}
use mathlib.Core.Path.{refl}
use native.Mathlib.Omega.{arith}
use Rattle.field.specs.Bytes.{Bytes}
use Rattle.rows.specs.Rows.{step_of}
use Rattle.rows.proofs.Horner.{first, turn, done, column_next, column_fits, step_right}
use Rattle.rows.proofs.row_block.Goals as goal

pub loop-i-init : goal.loop-i-init
loop-i-init c =
    let known : Bytes c.args.«data».now = λ i. (c.shared_slice_known-1.given i).fits in
    let next = column_next (c.args.k - 1) c.args.k c.args.l (omega arith) in
    (omega (arith, next), first _ _ _ _ _ _ _ _ _ known (omega arith) (omega arith) c.last-a.ensures)

pub loop-i-preserved : goal.loop-i-preserved
loop-i-preserved c =
    let a = c.args in
    let i = c.loop-i.i in
    let known : Bytes a.«data».now = λ i. (c.shared_slice_known-1.given i).fits in
    let next = column_next (i - 1) i a.l (omega arith) in
    let inside = column_fits _ a.k a.l (i - 1) c.requires.0 (omega arith) in (
      omega (arith, next, c.loop-i.invariant.0),
      turn _ _ _ _ _ a.j _ _ _ _ _ _ _ (step_of a.j) (step_right a.j (omega arith)) known (omega arith) (omega (arith, next, c.loop-i.invariant.0)) refl
          (omega (arith, inside, next, c.loop-i.invariant.0)) (omega arith) c.loop-i.invariant.1 c.step.ensures,
    )

pub returns : goal.returns
returns c = done _ _ _ _ _ _ c.args.j c.loop-i.i _ _ _ (omega arith) c.loop-i.invariant.0 refl c.loop-i.invariant.1
