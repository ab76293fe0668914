-- `fill_short` meets its contract: the rows below j are there.
use Prim.Native.Nat.{◌*◌}
use mathlib.Core.Path.{◌≡◌}
use lib.ListN.{length}
use Rattle.rows.specs.Rows.{RowsBelow}
use Rattle.rows.proofs.fill_short.Given as goal

abbrev pub invariant-loop-j : goal.invariant-loop-j
invariant-loop-j l = (length l.out ≡ l.r * l.l) × RowsBelow l.data l.k l.l l.j l.l l.out
