-- `block2` meets its contract: each array holds its row of the columns from number i on.
use Prim.Native.Nat.{◌*◌, ◌-◌}
use Rattle.rows.proofs.Horner.{Held}
use Rattle.rows.proofs.block2.Given as goal

abbrev pub invariant-loop-i : goal.invariant-loop-i
invariant-loop-i l =
    Held l.data l.l l.from 64 64 0 (l.i * l.l) (l.k - l.i) l.row0 × Held l.data l.l l.from 64 64 1 (l.i * l.l) (l.k - l.i) l.row1
