-- `steps::mask` meets its contract: the test is the definition's.
use mathlib.Core.Path.{sym, ap}
use mathlib.Core.Bool.{Bool, cond}
use borrow.Author.Tests.{eq-eqb, ne_eqb}
use Rattle.steps.proofs.mask.Goals as goal

pub returns-then-x-b-eq0 : goal.returns-then-x-b-eq0
returns-then-x-b-eq0 c = sym (ap (λ (z : Bool). cond z 0 c.args.t) (eq-eqb _ _ c.if-x-b-eq0.true))

pub returns-else-x-b-eq0 : goal.returns-else-x-b-eq0
returns-else-x-b-eq0 c = sym (ap (λ (z : Bool). cond z 0 c.args.t) (ne_eqb _ _ c.if-x-b-eq0.false))
