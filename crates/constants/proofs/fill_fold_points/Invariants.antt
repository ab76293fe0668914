-- `fill_fold_points` meets its contract: the points of the first i stripes are there.
use Rattle.constants.proofs.Points.{FoldFilled}
use Rattle.constants.proofs.fill_fold_points.Given as goal

abbrev pub invariant-loop-i : goal.invariant-loop-i
invariant-loop-i l = FoldFilled l.k l.r l.n l.i l.out
