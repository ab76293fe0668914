-- `Gf::product` meets its contract: what is summed so far and the product of the bits that are left are the product.
use mathlib.Core.Path.{◌≡◌}
use Prim.Native.Nat.{◌-◌, ◌/◌, ◌^◌, ◌<◌}
use Rattle.field.specs.Field.{◌⊕◌, ◌⊗◌, shifted}
use Rattle.field.proofs.Gf.product.Given as goal

abbrev pub invariant-loop-i : goal.invariant-loop-i
invariant-loop-i l = (l.b < 256) × (l.sum ⊕ shifted (8 - l.i) (l.self.0 / 2 ^ l.i) l.b ≡ l.self.0 ⊗ l.initial.b)
