-- `products::product` meets its contract: what is summed so far and the product of the bits that are left are the product.
use mathlib.Core.Path.{◌≡◌}
use Prim.Native.Nat.{◌-◌, ◌/◌, ◌^◌}
use lib.ListN.{get_or}
use Rattle.field.specs.Field.{◌⊕◌, ◌⊗◌, shifted}
use Rattle.products.proofs.product.Given as goal

abbrev pub invariant-loop-i : goal.invariant-loop-i
invariant-loop-i l = l.sum ⊕ shifted (8 - l.i) (l.x / 2 ^ l.i) (get_or l.m l.i 0) ≡ get_or l.m 0 0 ⊗ l.x
