-- `slab` meets its contract: at the places below `at` the columns of the slab are in.
use Rattle.std.specs.Prelude.{◌≤◌, ◌+◌, ◌-◌}
use lib.ListN.{length}
use Rattle.matrix.specs.Sums.{AllNumbered}
use Rattle.matrix.proofs.Blocks.{Edge}
use Rattle.matrix.proofs.slab.Given as goal

abbrev pub invariant-loop-at : goal.invariant-loop-at
invariant-loop-at l =
    (l.at ≤ l.count) × AllNumbered l.matrix (length l.cs) l.i l.n l.rows l.es
    × Edge l.matrix l.cs l.columns l.from l.stride l.count l.rows (l.i + l.n) l.i l.at l.out

abbrev pub decreases-loop-at : goal.decreases-loop-at
decreases-loop-at l = l.count - l.at
