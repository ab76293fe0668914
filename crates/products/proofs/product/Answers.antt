-- `products::product` meets its contract: what is summed so far and the product of the bits that are left are the product.
use mathlib.Core.Path.{◌∙◌}
use Prim.Native.Nat.{◌<◌}
use native.Mathlib.Omega.{arith}
use borrow.Author.Rules.{rules}
use Rattle.field.specs.Field.{◌⊕◌}
use Rattle.field.proofs.Mul.{mul_comm}
use Rattle.field.proofs.Shifting.{bits_start, bits_turn, bits_done}
use Rattle.products.proofs.Products.{mask_of}
use Rattle.products.proofs.product.Goals as goal

pub loop-i-init : goal.loop-i-init
loop-i-init c = bits_start _ _ (search rules) ∙ mul_comm _ _

pub loop-i-preserved : goal.loop-i-preserved
unfolding ◌⊕◌
loop-i-preserved c =
    let l = c.loop-i in
    let h : l.i < 8 = omega arith in
    bits_turn l.i _ l.sum c.args.x _ _ _ h (search rules) l.invariant (c.mask-sum.ensures ∙ mask_of l.i _ _ h) (c.requires.twice l.i)

pub returns : goal.returns
returns c = bits_done _ _ _ _ _ (omega arith) c.loop-i.invariant
