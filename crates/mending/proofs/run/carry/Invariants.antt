-- `carry` meets its contract.
use Rattle.mending.specs.Scratch.{Carried}
use Rattle.mending.proofs.run.carry.Given as goal

abbrev pub invariant-loop-j : goal.invariant-loop-j
invariant-loop-j l = Carried l.s l.p l.b l.j l.initial.slots l.slots
