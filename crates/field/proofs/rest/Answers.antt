-- `rest` meets its contract: what is left of what has been taken from u is what is left of u.
use native.Mathlib.Nat.{lt_trans}
use borrow.Author.Rules.{rules}
use native.Mathlib.Omega.{arith}
use Rattle.field.specs.Field.{◌⊕◌}
use Rattle.field.specs.Euclid.{taken, shorter, longer}
use Rattle.field.proofs.Euclid.{zeros_lt, taken_less}
use Rattle.field.proofs.rest.Goals as goal

pub loop-w-init : goal.loop-w-init
loop-w-init c = (c.ranges.u.fits, λ r x. x)

pub overflow_shl-w : goal.overflow_shl-w
overflow_shl-w c = omega (arith, zeros_lt c.args.v c.requires c.ranges.v.fits)

pub loop-w-smaller : goal.loop-w-smaller
unfolding taken ◌⊕◌
loop-w-smaller c =
    let z = c.before.before in
    taken_less z.args.v c.loop-w.w z.requires z.ranges.v.fits c.loop-w.invariant.0 c.loop-w-test.true

pub loop-w-preserved : goal.loop-w-preserved
unfolding taken ◌⊕◌
loop-w-preserved c = (lt_trans (loop-w-smaller c) c.loop-w.invariant.0, λ r x. c.loop-w.invariant.1 r (longer c.loop-w-test.true x))

pub returns : goal.returns
returns c = c.loop-w.invariant.1 _ (shorter (search rules))
