-- `fill_columns` meets its contract: the constants of the fold, applied to the columns read in order, are its answer.
use mathlib.Core.Path.{◌≡◌, ap, ap₂, ◌∙◌}
use mathlib.Core.List.{List}
use Prim.Native.Nat.{ℕ, ◌*◌, ◌%◌}
use native.Mathlib.Omega.{arith}
use Rattle.field.specs.Bytes.{tabulate}
use Rattle.field.proofs.Bytes.{tabulate-length}
use Rattle.matrix.specs.Matrix.{becomes}
use Rattle.constants.proofs.Constants.{front_fits, front_read}
use Rattle.coding.proofs.ByPoints.{order_filled}
use Rattle.fold.proofs.ByPoints.{columns_most, columns_filled_lem}
use Rattle.fold.proofs.by_points.fill_columns.Goals as goal
use Rattle.fold.proofs.by_points.fill_columns.Goals.{After-in_order}

order : (c : After-in_order) → c.in_order.new.out ≡ tabulate (c.args.stripes * c.read_columns.result) (λ i. i % 256)
order c =
    order_filled _ _ _ (columns_most _ _ _ _ c.requires.0 c.read_columns.ensures) c.in_order.ensures

pub overflow_mul-m : goal.overflow_mul-m
overflow_mul-m c = omega (arith, columns_most _ _ _ _ c.requires.0 c.read_columns.ensures)

pub slice_bounds-at-end : goal.slice_bounds-at-end
slice_bounds-at-end c = columns_most _ _ _ _ c.requires.0 c.read_columns.ensures

pub slice_bounds-apply-end : goal.slice_bounds-apply-end
slice_bounds-apply-end c = front_fits _ _ _ (tabulate-length _ _) (order (goal.at.slice_bounds-apply-end c).After-in_order)

pub returns : goal.returns
returns c =
    let a = c.args in
    c.apply.ensures
    ∙ ap₂ (λ (at ms : List ℕ). becomes a.s.r at ms a.read.now 0 a.s.l a.s.l a.parity.now)
    (front_read _ _ _ (tabulate-length _ _) (order (goal.at.returns c).After-in_order)) c.requires.1
    ∙ columns_filled_lem a.s a.stripes a.read.now a.parity.now c.requires.0 _
    (ap (λ (m : ℕ). tabulate (a.stripes * m) (λ i. i % 256)) c.read_columns.ensures)
