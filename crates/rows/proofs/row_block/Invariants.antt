-- `row_block` meets its contract: the array holds row j of the columns from number i on.
use Prim.Native.Nat.{◌*◌, ◌-◌}
use mathlib.Core.Path.{◌≡◌}
use Rattle.rows.proofs.Horner.{Held}
use Rattle.rows.proofs.row_block.Given as goal

abbrev pub invariant-loop-i : goal.invariant-loop-i
invariant-loop-i l = (l.o ≡ l.i * l.l) × Held l.data l.l l.from l.n 64 l.j l.o (l.k - l.i) l.a
