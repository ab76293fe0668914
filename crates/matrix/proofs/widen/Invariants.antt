-- `widen` meets its contract: the first c sums are there.
use Rattle.matrix.specs.Sums.{Widened}
use Rattle.matrix.proofs.widen.Given as goal

abbrev pub invariant-loop-c : goal.invariant-loop-c
invariant-loop-c l = Widened l.g l.have l.c l.d l.initial.t l.t
