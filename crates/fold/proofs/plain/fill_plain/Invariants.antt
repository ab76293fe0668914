-- `fill_plain` meets its contract: the first j rows are there.
use Rattle.fold.proofs.WideRows.{RowsTo}
use Rattle.fold.proofs.plain.fill_plain.Given as goal

abbrev pub invariant-loop-j : goal.invariant-loop-j
invariant-loop-j l = RowsTo l.k l.l l.n l.f l.d l.j l.parity
