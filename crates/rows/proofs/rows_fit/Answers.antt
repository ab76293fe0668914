-- `rows_fit_lem` meets its contract: each test decides one part of the definition.
use mathlib.Core.Path.{sym, ◌∙◌}
use native.Mathlib.Nat.{mul-le-mul}
use native.Mathlib.Omega.{arith}
use borrow.Author.Tests.{le-leb, lt-leb}
use Rattle.rows.proofs.Fits.{columns_fit_lem}
use Rattle.rows.proofs.rows_fit.Goals as goal

pub returns-then-not-columns_fit : goal.returns-then-not-columns_fit
returns-then-not-columns_fit c = simp (sym c.columns_fit.ensures ∙ c.if-not-columns_fit.true)

pub returns-then-r-lt1 : goal.returns-then-r-lt1
returns-then-r-lt1 c = simp (sym c.columns_fit.ensures ∙ c.if-not-columns_fit.false, lt-leb _ _ c.if-r-lt1.true)

pub returns-then-r-gt-MOST_ROWS : goal.returns-then-r-gt-MOST_ROWS
returns-then-r-gt-MOST_ROWS c =
    simp (
      sym c.columns_fit.ensures ∙ c.if-not-columns_fit.false,
      le-leb _ _ c.if-r-lt1.false,
      lt-leb _ _ c.if-r-gt-MOST_ROWS.true,
    )

pub overflow_mul-result : goal.overflow_mul-result
overflow_mul-result c =
    let f = columns_fit_lem _ _ _ (sym c.columns_fit.ensures ∙ c.if-not-columns_fit.false) in
    omega (arith, mul-le-mul c.if-r-gt-MOST_ROWS.false f.length_most)

pub returns : goal.returns
returns c =
    simp (
      sym c.columns_fit.ensures ∙ c.if-not-columns_fit.false,
      le-leb _ _ c.if-r-lt1.false,
      le-leb _ _ c.if-r-gt-MOST_ROWS.false,
    )
