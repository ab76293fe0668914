-- `one_row` meets its contract: at the places below `at` the row is there.
use Rattle.std.specs.Prelude.{◌≤◌, ◌-◌}
use Rattle.matrix.specs.Listing.{Lists}
use Rattle.matrix.proofs.Listing.{RowBelow}
use Rattle.matrix.proofs.one.one_row.Given as goal

abbrev pub invariant-loop-at : goal.invariant-loop-at
invariant-loop-at l =
    (l.at ≤ l.count) × Lists l.weights l.cs 8 l.ns l.ls × RowBelow l.weights l.cs l.columns l.from l.stride l.at l.out

abbrev pub decreases-loop-at : goal.decreases-loop-at
decreases-loop-at l = l.count - l.at
