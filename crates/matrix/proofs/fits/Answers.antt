-- `fits` meets its contract: each test decides one part of the definition.
use mathlib.Core.Path.{◌≡◌, sym, ◌∙◌}
use mathlib.Core.Bool.{true}
use native.Mathlib.Nat.{mul-le-mul}
use native.Mathlib.Omega.{arith}
use lib.ListN.{length}
use borrow.Author.Tests.{eq-eqb, ne_eqb}
use Rattle.matrix.specs.Matrix.{numbers_fit, matrix_fits}
use Rattle.matrix.proofs.Shape.{numbers_fit_lem}
use Rattle.matrix.proofs.fits.Goals as goal
use Rattle.matrix.proofs.fits.Goals.{Else-not-numbers_fit}

known : (c : Else-not-numbers_fit) → let a = c.args in numbers_fit a.rows (length a.cs.now) a.count ≡ true
known c = sym c.numbers_fit.ensures ∙ c.if-not-numbers_fit.false

pub returns-then-not-numbers_fit : goal.returns-then-not-numbers_fit
unfolding matrix_fits
returns-then-not-numbers_fit c = simp (sym c.numbers_fit.ensures ∙ c.if-not-numbers_fit.true)

pub overflow_mul-rows : goal.overflow_mul-rows
overflow_mul-rows c = let h = numbers_fit_lem _ _ _ (known c) in omega (arith, mul-le-mul h.rows_most h.columns_most)

pub returns-then-a-rows : goal.returns-then-a-rows
unfolding matrix_fits
returns-then-a-rows c = simp (known (goal.at.returns-then-a-rows c).Else-not-numbers_fit, ne_eqb _ _ c.if-a-rows.true)

pub columns_fit-requires : goal.columns_fit-requires
columns_fit-requires c = (numbers_fit_lem _ _ _ (known (goal.at.columns_fit-requires c).Else-not-numbers_fit)).columns_some

pub returns-then-not-columns_fit : goal.returns-then-not-columns_fit
unfolding matrix_fits
returns-then-not-columns_fit c =
    simp (
      known (goal.at.returns-then-not-columns_fit c).Else-not-numbers_fit,
      eq-eqb _ _ c.if-a-rows.false,
      sym c.columns_fit.ensures
          ∙ c.if-not-columns_fit.true,
    )

pub overflow_mul-result : goal.overflow_mul-result
overflow_mul-result c = let h = numbers_fit_lem _ _ _ (known (goal.at.overflow_mul-result c).Else-not-numbers_fit) in omega
    (arith, mul-le-mul h.rows_most h.places_most)

pub returns : goal.returns
unfolding matrix_fits
returns c =
    simp (known (goal.at.returns c).Else-not-numbers_fit, eq-eqb _ _ c.if-a-rows.false, sym c.columns_fit.ensures ∙ c.if-not-columns_fit.false)
