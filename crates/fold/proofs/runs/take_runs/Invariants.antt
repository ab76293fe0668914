-- `take_runs` meets its contract: after i turns the i first runs are taken in.
use Rattle.fold.proofs.Filling.{TakenTo}
use Rattle.fold.proofs.runs.take_runs.Given as goal

abbrev pub invariant-loop-i : goal.invariant-loop-i
invariant-loop-i l = TakenTo l.s l.f l.first l.d l.initial.parity l.parity l.i
