-- `first_by` meets its contract: the constants of the shape, and the columns in order.
use Prim.Native.Nat.{◌%◌}
use mathlib.Core.Path.{◌≡◌, ◌∙◌}
use native.Mathlib.Omega.{arith}
use Rattle.field.specs.Bytes.{tabulate}
use Rattle.field.proofs.Bytes.{tabulate-length}
use Rattle.stripe.proofs.Lent.{lent}
use Rattle.constants.proofs.Constants.{front_fits, front_read}
use Rattle.constants.proofs.Made.{encoding_made}
use Rattle.constants.proofs.Applied.{order_small}
use Rattle.coding.proofs.ByPoints.{Pointed, pointed, order_filled}
use Rattle.checking.proofs.by_points.first_by.Goals as goal
use Rattle.checking.proofs.by_points.first_by.Goals.{After-in_order, Start}

numbers : (c : Start) → Pointed c.args.lent.now.shape
numbers c = let a = c.args.lent.now in pointed a.shape (lent a.shape _ _ a.allowed).shape c.requires.0

order : (c : After-in_order) → c.in_order.new.out ≡ tabulate c.args.lent.now.shape.k (λ i. i % 256)
order c = order_filled _ _ _ (omega (arith, (numbers (goal.at.After-in_order c).Start).fits)) c.in_order.ensures

pub slice_bounds-at-end : goal.slice_bounds-at-end
slice_bounds-at-end c = omega (arith, (numbers (goal.at.slice_bounds-at-end c).Start).fits)

pub slice_bounds-all_windows-end : goal.slice_bounds-all_windows-end
slice_bounds-all_windows-end c = front_fits _ _ _ (tabulate-length _ _) (order (goal.at.slice_bounds-all_windows-end c).After-in_order)

pub all_windows-requires : goal.all_windows-requires
all_windows-requires c =
    let a = numbers (goal.at.all_windows-requires c).Start in (
      c.requires.0,
      (
        front_read _ _ _ (tabulate-length _ _) (order (goal.at.all_windows-requires c).After-in_order) ∙ order_small _ (omega (arith, a.fits)),
        c.encoding.ensures ∙ encoding_made _ _ _ a.fits a.few c.requires.1,
      ),
    )
