-- `bit_step` meets its contract: the sums of the first g groups are in.
use Rattle.matrix.proofs.Turns.{Gathered}
use Rattle.matrix.proofs.bit_step.Given as goal

abbrev pub invariant-loop-g : goal.invariant-loop-g
invariant-loop-g l =
    Gathered l.t l.es l.row l.g l.initial.y l.y
