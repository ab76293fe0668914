-- `all_numbers` meets its contract: the numbers of the first s rows are there.
use Rattle.matrix.specs.Sums.{AllNumbered}
use Rattle.matrix.proofs.all_numbers.Given as goal

abbrev pub invariant-loop-s : goal.invariant-loop-s
invariant-loop-s l = AllNumbered l.matrix l.m l.i l.n l.s l.es
