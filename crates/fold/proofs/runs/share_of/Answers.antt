-- `share_of` meets its contract: the mark decides.
use native.Mathlib.Omega.{arith}
use borrow.Author.Tests.{eq-eqb}
use Rattle.fold.specs.Shares.{share_of}
use Rattle.plan.proofs.Bounds.{fits, new_product}
use Rattle.fold.proofs.runs.share_of.Goals as goal

pub overflow_mul-result : goal.overflow_mul-result
overflow_mul-result c = fits _ (omega (arith, new_product _ c.requires.0 c.args.j (omega (arith, c.requires.1.0))))

pub returns-then-s-eq0 : goal.returns-then-s-eq0
unfolding share_of
returns-then-s-eq0 c = simp (eq-eqb _ _ c.if-s-eq0.true)
