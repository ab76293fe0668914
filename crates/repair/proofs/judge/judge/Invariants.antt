-- `judge` meets its contract: at the places below `at` the columns are as they are computed.
use mathlib.Core.Path.{◌≡◌}
use lib.ListN.{length}
use Rattle.repair.specs.Windows.{Holds, row_byte}
use Rattle.repair.proofs.judge.judge.Given as goal

abbrev pub invariant-loop-at : goal.invariant-loop-at
invariant-loop-at l = (length l.made ≡ length l.initial.made) × Holds (row_byte l.w l.from l.stripe l.l) l.spares l.l 0 l.at l.stripe
