-- `alone` meets its contract: it says yes of one row only.
use mathlib.Core.Path.{sym}
use mathlib.Core.Bool.{true≢false}
use Rattle.matrix.proofs.alone.Goals as goal

pub returns-then-rows-ne1 : goal.returns-then-rows-ne1
returns-then-rows-ne1 c = λ e. absurd (true≢false (sym e))

pub returns : goal.returns
returns c = λ e. c.if-rows-ne1.false
