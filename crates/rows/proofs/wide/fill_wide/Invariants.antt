-- `fill_wide` meets its contract: at the places below b the rows are there.
use Prim.Native.Nat.{◌*◌}
use mathlib.Core.Path.{◌≡◌}
use lib.ListN.{length}
use Rattle.rows.specs.Rows.{RowsBelow}
use Rattle.rows.proofs.wide.fill_wide.Given as goal

abbrev pub invariant-loop-c : goal.invariant-loop-c
invariant-loop-c l = (length l.out ≡ 3 * l.l) × RowsBelow l.data l.k l.l 3 (l.c * 64) l.out
