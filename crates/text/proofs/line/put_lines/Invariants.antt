-- The lines of the columns before the place are written.
use Prim.Native.Nat.{◌+◌}
use mathlib.Core.Path.{◌≡◌}
use lib.ListN.{length}
use Rattle.field.specs.Bytes.{over}
use Rattle.text.specs.Text.{column_lines}
use Rattle.text.proofs.line.put_lines.Given as goal

abbrev pub invariant-loop-c : goal.invariant-loop-c
invariant-loop-c l =
    (l.next ≡ l.at + length (column_lines l.l l.lost 0 l.c l.stripe))
    × (l.out ≡ over l.initial.out l.at (column_lines l.l l.lost 0 l.c l.stripe))
