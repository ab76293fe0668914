-- `product` meets its contract.
use borrow.Author.Rules.{rules}
use Prim.Native.Nat.{ℕ}
use mathlib.Core.Path.{sym, ap, ◌∙◌}
use Rattle.field.specs.Field.{◌⊗◌}
use Rattle.field.proofs.Mul.{one-mul}
use Rattle.mending.proofs.scalars.product.Goals as goal

pub returns-then-x-eq1 : goal.returns-then-x-eq1
returns-then-x-eq1 c = sym (ap (λ (z : ℕ). z ⊗ c.args.y) c.if-x-eq1.true ∙ one-mul c.args.y (search rules))
