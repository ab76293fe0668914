-- `by_doubling` meets its contract: what is left of the factor times the bytes is the product at each turn.
use Prim.Native.Nat.{◌<◌}
use Rattle.products.specs.Within.{Halved}
use Rattle.products.proofs.within.by_doubling.Given as goal

abbrev pub invariant-loop-k : goal.invariant-loop-k
invariant-loop-k l = (0 < l.k) × ((l.k < 256) × Halved l.c l.k l.initial.t l.t)

abbrev pub decreases-loop-k : goal.decreases-loop-k
decreases-loop-k l = l.k
