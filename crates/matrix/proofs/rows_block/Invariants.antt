-- `rows_block` meets its contract: the first s rows are there.
use Rattle.matrix.specs.Sums.{Rowed}
use Rattle.matrix.proofs.rows_block.Given as goal

abbrev pub invariant-loop-s : goal.invariant-loop-s
invariant-loop-s l = Rowed l.t l.es l.groups l.fresh l.count l.at l.w l.s l.initial.out l.out
