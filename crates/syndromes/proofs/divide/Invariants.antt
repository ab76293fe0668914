-- `divide` meets its contract: the rows before j are over their weights.
use Rattle.field.specs.Bytes.{Bytes}
use Rattle.syndromes.proofs.Filling.{DividedTo}
use Rattle.syndromes.proofs.divide.Given as goal

abbrev pub invariant-loop-j : goal.invariant-loop-j
invariant-loop-j l = DividedTo l.l l.r l.x l.j l.initial.out l.out × Bytes l.out
