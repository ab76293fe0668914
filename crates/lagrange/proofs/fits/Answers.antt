-- `fits` meets its contract: each test decides one part of the definition.
use native.Mathlib.Omega.{arith}
use borrow.Author.Tests.{le-leb}
use Rattle.std.proofs.lemmas.Bool.Decides.{nat_tests}
use Rattle.lagrange.specs.Weights.{weights_fit}
use Rattle.lagrange.proofs.fits.Goals as goal

pub returns-then-m-le255 : goal.returns-then-m-le255
unfolding weights_fit
returns-then-m-le255 c = simp (le-leb _ _ c.if-m-le255.true.0, le-leb _ _ c.if-m-le255.true.1)

pub returns-else-m-le255 : goal.returns-else-m-le255
unfolding weights_fit
returns-else-m-le255 c = grind (arith, nat_tests)
