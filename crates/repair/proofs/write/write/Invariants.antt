-- `write` meets its contract: at the places below `at` the columns are as they are computed.
use Prim.Native.Nat.{◌≤◌}
use mathlib.Core.Path.{◌≡◌}
use lib.ListN.{length}
use Rattle.repair.specs.Windows.{Put, row_byte}
use Rattle.repair.proofs.write.write.Given as goal

abbrev pub invariant-loop-at : goal.invariant-loop-at
invariant-loop-at l =
    (l.at ≤ l.l) × (length l.made ≡ length l.initial.made)
    × Put (row_byte l.w l.from l.initial.stripe l.l) l.to (length l.to) l.l 0 l.at l.initial.stripe l.stripe
