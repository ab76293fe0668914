-- `fourteen` meets its contract: each array holds its row of the columns from number i on.
use Prim.Native.Nat.{◌*◌, ◌-◌}
use Rattle.rows.proofs.Horner.{Held3}
use Rattle.rows.proofs.wide.fourteen.Given as goal

abbrev pub invariant-loop-i : goal.invariant-loop-i
invariant-loop-i l = Held3 l.w 64 0 (l.i * 64) (14 - l.i) l.row0 l.row1 l.row2
