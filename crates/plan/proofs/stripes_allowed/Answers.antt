-- `stripes_allowed` meets its contract: each test decides one part of the definition.
use native.Mathlib.Nat.{mul-le-mul}
use native.Mathlib.Omega.{arith}
use borrow.Author.Tests.{lt-leb, le-leb}
use Rattle.plan.proofs.Bounds.{fits}
use Rattle.plan.proofs.stripes_allowed.Goals as goal

pub returns-then-n-lt2 : goal.returns-then-n-lt2
returns-then-n-lt2 c = simp (lt-leb _ _ c.if-n-lt2.true)

pub returns-then-n-gt255 : goal.returns-then-n-gt255
returns-then-n-gt255 c = simp (le-leb _ _ c.if-n-lt2.false, lt-leb _ _ c.if-n-gt255.true)

pub overflow_mul-wide : goal.overflow_mul-wide
overflow_mul-wide c = fits _ (omega (arith, mul-le-mul {n₂ = 255} c.if-n-gt255.false c.requires.0))

pub returns-then-wide-gt-MOST_DATA : goal.returns-then-wide-gt-MOST_DATA
returns-then-wide-gt-MOST_DATA c = simp (le-leb _ _ c.if-n-lt2.false, le-leb _ _ c.if-n-gt255.false, lt-leb _ _ c.if-wide-gt-MOST_DATA.true)

pub returns-then-r-le-MOST_ROWS : goal.returns-then-r-le-MOST_ROWS
returns-then-r-le-MOST_ROWS c =
    simp (
      le-leb _ _ c.if-n-lt2.false,
      le-leb _ _ c.if-n-gt255.false,
      le-leb _ _ c.if-wide-gt-MOST_DATA.false,
      le-leb _ _ c.if-r-le-MOST_ROWS.true,
    )

pub overflow_add-result : goal.overflow_add-result
overflow_add-result c = let most = c.if-wide-gt-MOST_DATA.false in fits _ (omega (arith, most, c.requires.1))

pub returns : goal.returns
returns c =
    simp (
      le-leb _ _ c.if-n-lt2.false,
      le-leb _ _ c.if-n-gt255.false,
      le-leb _ _ c.if-wide-gt-MOST_DATA.false,
      lt-leb _ _ c.if-r-le-MOST_ROWS.false,
    )
