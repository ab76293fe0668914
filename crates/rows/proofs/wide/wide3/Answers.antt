-- `wide3` meets its contract: from slot s on w holds the last coefficients of the quotient of the columns from number i on.
use Prim.Native.Nat.{◌-◌}
use mathlib.Core.Path.{◌≡◌, refl, ◌∙◌}
use native.Mathlib.Omega.{arith}
use Rattle.field.specs.Bytes.{Bytes}
use Rattle.rows.proofs.Horner.{column_next, column_none}
use Rattle.rows.proofs.Ring.{slot_small, slot_of, start, turn, done3}
use Rattle.rows.proofs.wide.wide3.Goals as goal

pub loop-i-init : goal.loop-i-init
loop-i-init c = (refl, start _ _ _ _ _ _ (omega arith))

pub after-s-requires : goal.after-s-requires
after-s-requires c = (omega (arith, c.loop-i.invariant.0), omega arith)

pub take-requires : goal.take-requires
take-requires c = slot_small _ _ _ c.after-s.ensures

pub loop-i-preserved : goal.loop-i-preserved
loop-i-preserved c =
    let i = c.loop-i.i in
    let new = c.after-s.ensures in (
      new ∙ slot_of _ _ (omega arith) c.loop-i.invariant.0,
      turn _ _ _ _ _ _ _ _ _ _ _ _ (column_next (i - 1) i c.args.l (omega arith)) (omega arith) new c.take.ensures c.last-d.ensures c.loop-i.invariant.1,
    )

pub returns : goal.returns
returns c =
    let at = c.loop-i in
    let first = column_none at.i c.args.l (omega arith) in
    let all : c.args.k - at.i ≡ c.args.k = omega arith in
    let slot0 : at.s ≡ 0 = omega (arith, at.invariant.0) in
    let known : Bytes c.args.«data».now = λ i. (c.shared_slice_known-1.given i).fits in
    let v = c.fourteen.result in
    done3 _ c.args.k _ _ _ _ _ _ _ v.row0 v.row1 v.row2 known first all slot0 at.invariant.1
    c.settle.ensures c.fourteen.ensures
