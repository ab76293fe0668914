-- `by_doubling` meets its contract: what is left of the factor times the bytes is the product at each turn.
use Prim.Native.Nat.{◌/◌}
use native.Mathlib.Omega.{arith}
use borrow.Author.Rules.{rules}
use mathlib.Core.Path.{sym, ◌∙◌}
use Rattle.products.proofs.Products.{power_positive}
use Rattle.products.proofs.Halving.{halved_start, halved_turn}
use Rattle.products.proofs.within.by_doubling.Goals as goal

pub returns-then-not-is_power_of_two : goal.returns-then-not-is_power_of_two
returns-then-not-is_power_of_two c = halved_start _ _

pub loop-k-init : goal.loop-k-init
loop-k-init c = (power_positive _ (sym c.is_power_of_two.ensures ∙ c.if-not-is_power_of_two.false), (search rules, halved_start _ _))

pub loop-k-smaller : goal.loop-k-smaller
loop-k-smaller c = omega (arith, c.loop-k.invariant.0)

pub loop-k-preserved : goal.loop-k-preserved
loop-k-preserved c =
    let loop = c.loop-k in
    let even = c.loop-k-test.true in (
      omega (arith, loop.invariant.0, even),
      (
        omega (arith, loop.invariant.1.0),
        halved_turn _ loop.k (loop.k / 2) _ loop.t _ (omega (arith, even)) (omega (arith, loop.invariant.1.0)) (omega arith) loop.invariant.1.1
            c.double_add.ensures,
      ),
    )

pub returns : goal.returns
returns c = c.loop-k.invariant.1.1
