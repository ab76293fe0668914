-- `fill_long` meets its contract: at the places below b the rows are there.
use Prim.Native.Nat.{◌*◌, ◌-◌, ◌≤◌}
use mathlib.Core.Path.{◌≡◌}
use lib.ListN.{length}
use Rattle.rows.specs.Rows.{RowsBelow}
use Rattle.rows.proofs.fill_long.Given as goal

abbrev pub invariant-loop-b : goal.invariant-loop-b
invariant-loop-b l = (l.b ≤ l.l) × (length l.out ≡ l.r * l.l) × RowsBelow l.data l.k l.l l.r l.b l.out

abbrev pub decreases-loop-b : goal.decreases-loop-b
decreases-loop-b l = l.l - l.b
