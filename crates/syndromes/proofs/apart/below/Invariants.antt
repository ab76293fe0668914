-- `below` meets its contract: each array holds its row of the columns before number i.
use Rattle.syndromes.proofs.Upwards.{Risen}
use Rattle.syndromes.proofs.apart.below.Given as goal

abbrev pub invariant-loop-i : goal.invariant-loop-i
invariant-loop-i l =
    Risen l.stripe l.fn.s.k l.fn.s.l l.from 64 64 0 l.i l.row0 × Risen l.stripe l.fn.s.k l.fn.s.l l.from 64 64 1 l.i l.row1
