-- `spread` meets its contract: the first v rows are there.
use Rattle.lagrange.specs.Lanes.{Spread}
use Rattle.lagrange.proofs.spread.Given as goal

abbrev pub invariant-loop-v : goal.invariant-loop-v
invariant-loop-v l = Spread l.cs l.v l.rows
