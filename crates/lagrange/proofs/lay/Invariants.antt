-- `lay` meets its contract: the first v rows are laid out.
use Rattle.lagrange.specs.Lanes.{Laid}
use Rattle.lagrange.proofs.lay.Given as goal

abbrev pub invariant-loop-v : goal.invariant-loop-v
invariant-loop-v l = Laid l.rows l.v l.m l.at l.w l.initial.out l.out
