-- `numbers_fit_lem` meets its contract: each test decides one part of the definition.
use borrow.Author.Tests.{le-leb, lt-leb}
use Rattle.matrix.specs.Matrix.{numbers_fit}
use Rattle.matrix.proofs.numbers_fit.Goals as goal

pub returns-then-rows-lt1 : goal.returns-then-rows-lt1
unfolding numbers_fit
returns-then-rows-lt1 c = simp (lt-leb _ _ c.if-rows-lt1.true)

pub returns-then-rows-gt16 : goal.returns-then-rows-gt16
unfolding numbers_fit
returns-then-rows-gt16 c = simp (le-leb _ _ c.if-rows-lt1.false, lt-leb _ _ c.if-rows-gt16.true)

pub returns-then-m-lt1 : goal.returns-then-m-lt1
unfolding numbers_fit
returns-then-m-lt1 c = simp (le-leb _ _ c.if-rows-lt1.false, le-leb _ _ c.if-rows-gt16.false, lt-leb _ _ c.if-m-lt1.true)

pub returns-then-m-gt255 : goal.returns-then-m-gt255
unfolding numbers_fit
returns-then-m-gt255 c =
    simp (le-leb _ _ c.if-rows-lt1.false, le-leb _ _ c.if-rows-gt16.false, le-leb _ _ c.if-m-lt1.false, lt-leb _ _ c.if-m-gt255.true)

pub returns-then-count-lt1 : goal.returns-then-count-lt1
unfolding numbers_fit
returns-then-count-lt1 c =
    simp (
      le-leb _ _ c.if-rows-lt1.false,
      le-leb _ _ c.if-rows-gt16.false,
      le-leb _ _ c.if-m-lt1.false,
      le-leb _ _ c.if-m-gt255.false,
      lt-leb _ _ c.if-count-lt1.true,
    )

pub returns : goal.returns
unfolding numbers_fit
returns c =
    simp (
      le-leb _ _ c.if-rows-lt1.false,
      le-leb _ _ c.if-rows-gt16.false,
      le-leb _ _ c.if-m-lt1.false,
      le-leb _ _ c.if-m-gt255.false,
      le-leb _ _ c.if-count-lt1.false,
    )
