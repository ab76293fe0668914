-- `positions_length` meets its contract: what was counted and the positions left are all bytes.
use Prim.Native.Nat.{◌+◌}
use mathlib.Core.Path.{◌≡◌}
use lib.ListN.{length, drop}
use Rattle.record.specs.Layout.{positions_written}
use Rattle.writing.proofs.positions_length.Given as goal

abbrev pub invariant-loop-e : goal.invariant-loop-e
invariant-loop-e l = l.total + length (positions_written (drop l.e-index l.lost)) ≡ length (positions_written l.lost)
