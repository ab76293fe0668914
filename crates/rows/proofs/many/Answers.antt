-- `many` meets its contract: fewer than three rows are told first.
use mathlib.Core.Path.{sym}
use mathlib.Core.Bool.{true≢false}
use Rattle.rows.proofs.many.Goals as goal

pub returns-then-r-lt3 : goal.returns-then-r-lt3
returns-then-r-lt3 c e = absurd (true≢false (sym e))
