-- `step_columns` meets its contract: the columns from number i on are taken in.
use lib.ListN.{length}
use Rattle.fold.proofs.WideRows.{RowFrom}
use Rattle.fold.proofs.plain.step_columns.Given as goal

abbrev pub invariant-loop-i : goal.invariant-loop-i
invariant-loop-i l = RowFrom l.e l.d l.from l.stride l.n (length l.initial.row) l.i l.row
