-- `gather` meets its contract.
use Rattle.mending.proofs.Slots.{Gathering}
use Rattle.mending.proofs.gather.gather.Given as goal

abbrev pub invariant-loop-v : goal.invariant-loop-v
invariant-loop-v l = Gathering l.weights l.to l.from l.d l.n l.initial.slots l.slots l.v
