-- `block2` meets its contract: each array holds its row of the columns from number i on.
use Prim.Native.Nat.{◌-◌}
use mathlib.Core.Path.{refl}
use native.Mathlib.Omega.{arith}
use Rattle.field.specs.Bytes.{Bytes}
use Rattle.rows.proofs.Horner.{first, turn, done, column_next, column_fits, step_0, step_1}
use Rattle.rows.proofs.block2.Goals as goal

pub loop-i-init : goal.loop-i-init
loop-i-init c =
    let known : Bytes c.args.«data».now = λ i. (c.shared_slice_known-1.given i).fits in (
      first _ _ _ _ _ 0 _ _ _ known (omega arith) (omega arith) c.last-row0.ensures,
      first _ _ _ _ _ 1 _ _ _ known (omega arith) (omega arith) c.last-row0.ensures,
    )

pub loop-i-preserved : goal.loop-i-preserved
loop-i-preserved c =
    let a = c.args in
    let i = c.loop-i.i in
    let known : Bytes a.«data».now = λ i. (c.shared_slice_known-1.given i).fits in
    let next = column_next (i - 1) i a.l (omega arith) in
    let inside = column_fits _ a.k a.l (i - 1) c.requires.0 (omega arith) in (
      turn _ _ _ _ _ 0 _ _ _ _ _ _ _ _ step_0 known (omega arith) next refl (omega (arith, inside)) (omega arith) c.loop-i.invariant.0 c.add.ensures,
      turn _ _ _ _ _ 1 _ _ _ _ _ _ _ _ step_1 known (omega arith) next refl (omega (arith, inside)) (omega arith) c.loop-i.invariant.1
          c.double_add.ensures,
    )

pub returns : goal.returns
returns c =
    let loop = c.loop-i in (
      done _ _ _ _ _ _ 0 loop.i _ _ _ (omega arith) refl refl loop.invariant.0,
      done _ _ _ _ _ _ 1 loop.i _ _ _ (omega arith) refl refl loop.invariant.1,
    )
