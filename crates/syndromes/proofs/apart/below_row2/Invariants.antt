-- `below_row2` meets its contract: the array holds row 2 of the columns before number i.
use Rattle.syndromes.proofs.Upwards.{Risen}
use Rattle.syndromes.proofs.apart.below_row2.Given as goal

abbrev pub invariant-loop-i : goal.invariant-loop-i
invariant-loop-i l = Risen l.stripe l.fn.s.k l.fn.s.l l.from 64 64 2 l.i l.row2
