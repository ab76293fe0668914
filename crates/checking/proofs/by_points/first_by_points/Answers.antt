-- `first_by_points` meets its contract: there is room for the most constants.
use Prim.Native.Nat.{◌*◌, ◌≤◌}
use native.Mathlib.Omega.{arith}
use Rattle.stripe.proofs.Lent.{lent}
use Rattle.constants.specs.Constants.{most_constants}
use Rattle.coding.proofs.ByPoints.{pointed, front_length}
use Rattle.checking.proofs.by_points.first_by_points.Goals as goal
use Rattle.checking.proofs.by_points.first_by_points.Goals.{Start}

constants : (c : Start) → c.args.lent.now.shape.r * c.args.lent.now.shape.k ≤ most_constants
constants c =
    let a = c.args.lent.now in (pointed a.shape (lent a.shape _ _ a.allowed).shape c.requires).small

pub overflow_mul-n : goal.overflow_mul-n
overflow_mul-n c = omega (arith, constants (goal.at.overflow_mul-n c).Start)

pub slice_bounds-w-end : goal.slice_bounds-w-end
slice_bounds-w-end c = omega (arith, constants (goal.at.slice_bounds-w-end c).Start)

pub first_by-requires : goal.first_by-requires
first_by-requires c = (c.requires, front_length _ _ (omega (arith, constants (goal.at.first_by-requires c).Start)))
