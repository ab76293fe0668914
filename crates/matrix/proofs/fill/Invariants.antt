-- `fill` meets its contract: the first i columns are in at every place.
use Rattle.std.specs.Prelude.{min, ◌-◌}
use lib.ListN.{length}
use Rattle.matrix.specs.Sums.{Held}
use Rattle.matrix.proofs.fill.Given as goal

abbrev pub invariant-loop-i : goal.invariant-loop-i
invariant-loop-i l = Held l.matrix l.cs l.columns l.from l.stride l.count l.rows (min l.i (length l.cs)) l.out

abbrev pub decreases-loop-i : goal.decreases-loop-i
decreases-loop-i l = length l.cs - l.i
