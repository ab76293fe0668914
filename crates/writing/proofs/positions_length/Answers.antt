-- `positions_length` meets its contract: what was counted and the positions left are all bytes.
use Prim.Native.Nat.{ℕ}
use mathlib.Core.Path.{ap}
use native.Mathlib.Omega.{arith}
use lib.ListN.{length}
use Rattle.number.specs.Number.{written}
use Rattle.writing.proofs.Putting.{positions_bytes, positions_end, positions_most}
use Rattle.writing.proofs.positions_length.Goals as goal

pub loop-e-init : goal.loop-e-init
loop-e-init c = omega arith

pub overflow_add-total : goal.overflow_add-total
overflow_add-total c =
    let a = c.args in
    let v = c.loop-e in
    omega (
      arith,
      positions_bytes a.lost.now v.e-index c.loop-e-test.true,
      ap (λ (x : ℕ). length (written x)) c.from.ensures,
      positions_most a.lost.now,
      c.requires,
    )

pub loop-e-preserved : goal.loop-e-preserved
loop-e-preserved c =
    let a = c.args in
    let v = c.loop-e in
    omega (arith, positions_bytes a.lost.now v.e-index c.loop-e-test.true, ap (λ (x : ℕ). length (written x)) c.from.ensures)

pub returns : goal.returns
returns c = omega (arith, ap length (positions_end c.args.lost.now c.loop-e.e-index c.loop-e-test.false))
