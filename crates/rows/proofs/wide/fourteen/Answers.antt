-- `fourteen` meets its contract: each array holds its row of the columns from number i on.
use Prim.Native.Nat.{◌*◌, ◌-◌}
use mathlib.Core.Path.{refl}
use native.Mathlib.Omega.{arith}
use Rattle.field.specs.Bytes.{Bytes}
use Rattle.rows.proofs.Horner.{first3, turn3, done3}
use Rattle.rows.proofs.wide.fourteen.Goals as goal

pub loop-i-init : goal.loop-i-init
loop-i-init c =
    let known : Bytes c.args.w.now = λ i. (c.shared_slice_known-1.given i).fits in
    first3 _ _ _ _ _ _ known (omega arith) refl c.last-row0.ensures

pub loop-i-preserved : goal.loop-i-preserved
loop-i-preserved c =
    let known : Bytes c.args.w.now = λ i. (c.shared_slice_known-1.given i).fits in
    let more = c.one_more.ensures in
    turn3 _ _ _ ((c.loop-i.i - 1) * 64) _ _ _ _ _ _ _ _ _ known (omega arith) (omega arith) (omega arith) c.loop-i.invariant _ (omega arith)
    (more.row0_after, (more.row1_after, more.row2_after))

pub returns : goal.returns
returns c = done3 _ _ _ _ c.loop-i.i _ _ _ _ _ (omega arith) refl refl c.loop-i.invariant
