-- What is printed fits its room.
use mathlib.Core.Path.{sym}
use native.Mathlib.Omega.{arith}
use lib.Seq.{length-take-le}
use Rattle.answer.proofs.Outcome.{printed_short}
use Rattle.mends.proofs.print.Goals as goal

pub slice_bounds-out-end : goal.slice_bounds-out-end
slice_bounds-out-end g c =
    let v = c.answer-m in
    printed_short _ _ v.result v.new.out v.ensures (omega (arith, c.room-out.ensures))

pub slice_bounds-write_all-end : goal.slice_bounds-write_all-end
slice_bounds-write_all-end g c =
    let v = c.answer-m in
    sym (length-take-le v.result v.new.out
    (printed_short _ _ v.result v.new.out v.ensures (omega (arith, c.room-out.ensures))))
