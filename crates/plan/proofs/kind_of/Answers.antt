-- `kind_of` meets its contract: each test decides one part of the definition.
use borrow.Author.Tests.{eq-eqb, ne_eqb, lt-leb, le-leb}
use Rattle.plan.specs.Plan.{kind_of}
use Rattle.plan.proofs.kind_of.Goals as goal

pub returns-then-s-ne0 : goal.returns-then-s-ne0
unfolding kind_of
returns-then-s-ne0 c = simp (ne_eqb _ _ c.if-s-ne0.true)

pub returns-then-s-f : goal.returns-then-s-f
unfolding kind_of
returns-then-s-f c = simp (eq-eqb _ _ c.if-s-ne0.false, lt-leb _ _ c.if-s-f.true)

pub returns-then-s-f-2 : goal.returns-then-s-f-2
unfolding kind_of
returns-then-s-f-2 c = simp (eq-eqb _ _ c.if-s-ne0.false, le-leb _ _ c.if-s-f.false, lt-leb _ _ c.if-s-f-2.true)

pub returns : goal.returns
unfolding kind_of
returns c = simp (eq-eqb _ _ c.if-s-ne0.false, le-leb _ _ c.if-s-f.false, le-leb _ _ c.if-s-f-2.false)
