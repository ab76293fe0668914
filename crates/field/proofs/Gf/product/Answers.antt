-- `Gf::product` meets its contract: what is summed so far and the product of the bits that are left are the product.
use mathlib.Core.Path.{sym, subst}
use Prim.Native.Nat.{ℕ, ◌<◌}
use native.Mathlib.Omega.{arith}
use borrow.Author.Rules.{rules}
use Rattle.field.specs.Field.{◌⊕◌}
use Rattle.field.proofs.Mul.{mul-lt}
use Rattle.field.proofs.Shifting.{bits_start, bits_turn, bits_done}
use Rattle.field.proofs.Gf.product.Goals as goal

pub loop-i-init : goal.loop-i-init
loop-i-init c = (search rules, bits_start _ _ (search rules))

pub loop-i-preserved : goal.loop-i-preserved
unfolding ◌⊕◌
loop-i-preserved c =
    let l = c.loop-i in (
      subst (λ (x : ℕ). x < 256) (sym c.double-b.ensures) (mul-lt 2 l.b),
      bits_turn l.i _ l.sum c.args.self.0 l.b _ _ (omega arith) l.invariant.0 l.invariant.1 c.low_times-sum.ensures (λ p. c.double-b.ensures),
    )

pub returns : goal.returns
returns c = bits_done _ _ _ _ _ (omega arith) c.loop-i.invariant.1
