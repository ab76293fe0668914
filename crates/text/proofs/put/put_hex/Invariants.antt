-- The bytes before the place are written.
use Prim.Native.Nat.{◌+◌, ◌*◌}
use mathlib.Core.Path.{◌≡◌}
use lib.ListN.{take}
use Rattle.field.specs.Bytes.{over}
use Rattle.text.specs.Text.{hex}
use Rattle.text.proofs.put.put_hex.Given as goal

abbrev pub invariant-loop-b : goal.invariant-loop-b
invariant-loop-b l =
    (l.next ≡ l.at + 2 * l.b-index) × (l.out ≡ over l.initial.out l.at (hex (take l.b-index l.bytes)))
