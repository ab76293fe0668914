-- `weights` meets its contract: numbers that do not fit, or the weights of the first points, block by block.
use Prim.Native.Nat.{◌*◌, min}
use lib.ListN.{length}
use Rattle.lagrange.specs.Lanes.{Filled}
use Rattle.lagrange.proofs.weights.Given as goal

abbrev pub invariant-loop-i : goal.invariant-loop-i
invariant-loop-i l = Filled l.bs l.ys (min (l.i * 16) (length l.ys)) l.out
