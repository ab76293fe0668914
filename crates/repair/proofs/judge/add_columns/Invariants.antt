-- `add_columns` meets its contract: the first v columns are added.
use Rattle.repair.specs.Windows.{Added}
use Rattle.repair.proofs.judge.add_columns.Given as goal

abbrev pub invariant-loop-v : goal.invariant-loop-v
invariant-loop-v l = Added l.columns l.v l.l l.at l.n l.stripe l.initial.rows l.rows
