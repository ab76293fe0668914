-- `put_positions` meets its contract: storing the positions left over what is stored gives all of them.
use Prim.Native.Nat.{◌+◌}
use mathlib.Core.Path.{◌≡◌}
use lib.ListN.{length, drop}
use lib.Seq.{sets}
use Rattle.record.specs.Layout.{positions_written}
use Rattle.writing.proofs.put_positions.Given as goal

abbrev pub invariant-loop-e : goal.invariant-loop-e
invariant-loop-e l =
    (length l.out ≡ length l.initial.out)
    × ((l.at + length (positions_written (drop l.e-index l.lost)) ≡ l.first + length (positions_written l.lost))
    × (sets l.out l.at (positions_written (drop l.e-index l.lost)) ≡ sets l.initial.out l.first (positions_written l.lost)))
