-- `columns_fit` meets its contract: each test decides one part of the definition.
use native.Mathlib.Nat.{mul-le-mul}
use native.Mathlib.Omega.{arith}
use borrow.Author.Tests.{le-leb, lt-leb}
use Rattle.rows.specs.Rows.{columns_fit}
use Rattle.rows.proofs.columns_fit.Goals as goal

pub returns-then-k-lt1 : goal.returns-then-k-lt1
unfolding columns_fit
returns-then-k-lt1 c = simp (lt-leb _ _ c.if-k-lt1.true)

pub returns-then-k-gt-MOST_DATA : goal.returns-then-k-gt-MOST_DATA
unfolding columns_fit
returns-then-k-gt-MOST_DATA c = simp (le-leb _ _ c.if-k-lt1.false, lt-leb _ _ c.if-k-gt-MOST_DATA.true)

pub returns-then-l-gt-MOST_LENGTH : goal.returns-then-l-gt-MOST_LENGTH
unfolding columns_fit
returns-then-l-gt-MOST_LENGTH c = simp (le-leb _ _ c.if-k-lt1.false, le-leb _ _ c.if-k-gt-MOST_DATA.false, lt-leb _ _ c.if-l-gt-MOST_LENGTH.true)

pub overflow_mul-result : goal.overflow_mul-result
overflow_mul-result c = omega (arith, mul-le-mul c.if-k-gt-MOST_DATA.false c.if-l-gt-MOST_LENGTH.false)

pub returns : goal.returns
unfolding columns_fit
returns c = simp (le-leb _ _ c.if-k-lt1.false, le-leb _ _ c.if-k-gt-MOST_DATA.false, le-leb _ _ c.if-l-gt-MOST_LENGTH.false)
