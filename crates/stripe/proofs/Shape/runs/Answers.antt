-- `Shape::runs` meets its contract: the mark decides.
use borrow.Author.Tests.{eq-eqb, ne_eqb}
use Rattle.stripe.proofs.Shape.runs.Goals as goal

pub returns-then-self-eq0 : goal.returns-then-self-eq0
returns-then-self-eq0 c = simp (eq-eqb _ _ c.if-self-eq0.true)

pub returns-else-self-eq0 : goal.returns-else-self-eq0
returns-else-self-eq0 c = simp (ne_eqb _ _ c.if-self-eq0.false)
