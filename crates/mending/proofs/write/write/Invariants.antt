-- `write` meets its contract.
use Rattle.mending.specs.Scratch.{MendedBelow}
use Rattle.mending.proofs.write.write.Given as goal

abbrev pub invariant-loop-v : goal.invariant-loop-v
invariant-loop-v l = MendedBelow l.s l.p l.v l.slots l.initial.stripe l.stripe
