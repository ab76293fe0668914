-- `fill_row` meets its contract: row j is there at the places below b.
use Prim.Native.Nat.{◌-◌, ◌≤◌}
use mathlib.Core.Path.{◌≡◌}
use lib.ListN.{length}
use Rattle.rows.specs.Rows.{RowsTo}
use Rattle.rows.proofs.fill_row.Given as goal

abbrev pub invariant-loop-b : goal.invariant-loop-b
invariant-loop-b l = (l.b ≤ l.l) × ((length l.out ≡ length l.initial.out) × RowsTo l.data l.k l.l l.j l.b l.out)

abbrev pub decreases-loop-b : goal.decreases-loop-b
decreases-loop-b l = l.l - l.b
