-- `fill_by_points` meets its contract: the constants have room in either buffer.
use Prim.Native.Nat.{ℕ, ◌*◌, ◌≤◌}
use mathlib.Core.Path.{◌≡◌}
use mathlib.Core.Bool.{true}
use native.Mathlib.Omega.{arith}
use Rattle.stripe.specs.declared.Shape.{Shape}
use Rattle.stripe.specs.Stripe.{by_points}
use Rattle.stripe.specs.Column.{lent_refusal}
use Rattle.stripe.proofs.Lent.{lent}
use Rattle.constants.specs.Constants.{most_constants}
use Rattle.coding.proofs.ByPoints.{pointed}
use Rattle.coding.proofs.by_points.fill_by_points.Goals as goal

small : (s : Shape) (d p : ℕ) → (lent_refusal s d p ≡ 0) × (by_points s ≡ true) → s.r * s.k ≤ most_constants
small s d p h = (pointed s (lent s d p h.0).shape h.1).small

pub overflow_mul-s : goal.overflow_mul-s
overflow_mul-s c = omega (arith, small c.args.s _ _ c.requires)

pub fill_in_room-requires : goal.fill_in_room-requires
fill_in_room-requires c = (c.requires.0, (c.requires.1, (c.if-s-le256.true, omega arith)))

pub fill_in_room-requires-else-s-le256 : goal.fill_in_room-requires-else-s-le256
fill_in_room-requires-else-s-le256 c = (c.requires.0, (c.requires.1, (small c.args.s _ _ c.requires, omega arith)))
