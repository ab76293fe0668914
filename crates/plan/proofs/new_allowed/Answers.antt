-- `new_allowed` meets its contract: each test decides one part of the definition.
use borrow.Author.Tests.{eq-eqb, ne_eqb, lt-leb, le-leb}
use Rattle.plan.proofs.new_allowed.Goals as goal

pub returns-then-r-gt-MOST_ROWS : goal.returns-then-r-gt-MOST_ROWS
returns-then-r-gt-MOST_ROWS c = simp (lt-leb _ _ c.if-r-gt-MOST_ROWS.true)

pub returns-then-f-lt1 : goal.returns-then-f-lt1
returns-then-f-lt1 c = simp (le-leb _ _ c.if-r-gt-MOST_ROWS.false, lt-leb _ _ c.if-f-lt1.true)

pub returns-then-f-gt-MOST_ROWS : goal.returns-then-f-gt-MOST_ROWS
returns-then-f-gt-MOST_ROWS c = simp (le-leb _ _ c.if-r-gt-MOST_ROWS.false, le-leb _ _ c.if-f-lt1.false, lt-leb _ _ c.if-f-gt-MOST_ROWS.true)

pub returns-then-t-eq0 : goal.returns-then-t-eq0
returns-then-t-eq0 c =
    simp (
      le-leb _ _ c.if-r-gt-MOST_ROWS.false,
      le-leb _ _ c.if-f-lt1.false,
      le-leb _ _ c.if-f-gt-MOST_ROWS.false,
      eq-eqb _ _ c.if-t-eq0.true,
    )

pub returns : goal.returns
returns c =
    simp (
      le-leb _ _ c.if-r-gt-MOST_ROWS.false,
      le-leb _ _ c.if-f-lt1.false,
      le-leb _ _ c.if-f-gt-MOST_ROWS.false,
      ne_eqb _ _ c.if-t-eq0.false,
    )
