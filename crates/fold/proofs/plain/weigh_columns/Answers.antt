-- `weigh_columns` meets its contract: the weights, applied to the columns in order, make the row.
use mathlib.Core.Path.{◌≡◌, refl, ap, ◌∙◌}
use Prim.Native.Nat.{ℕ, ◌*◌, ◌%◌}
use Rattle.field.specs.Field.{gpow}
use Rattle.field.specs.Bytes.{tabulate}
use Rattle.field.proofs.Bytes.{tabulate-length}
use Rattle.constants.proofs.Constants.{front_fits, front_read}
use Rattle.coding.proofs.ByPoints.{front_length, order_filled}
use Rattle.fold.proofs.WideRows.{columns_weighed}
use Rattle.fold.proofs.plain.weigh_columns.Goals as goal
use Rattle.fold.proofs.plain.weigh_columns.Goals.{After-fill_weights, After-in_order}

order : (c : After-in_order) → c.in_order.new.out ≡ tabulate c.args.n (λ i. i % 256)
order c = order_filled _ _ _ c.requires.1.most c.in_order.ensures

weights : (c : After-fill_weights) → c.fill_weights.new.w ≡ tabulate c.args.n (λ i. gpow (i * c.args.e))
weights c =
    c.fill_weights.ensures ∙ ap (λ (m : ℕ). tabulate m (λ i. gpow (i * c.args.e))) (front_length _ _ c.requires.1.most)

pub slice_bounds-apply-end : goal.slice_bounds-apply-end
slice_bounds-apply-end c = front_fits _ _ _ (tabulate-length _ _) (order (goal.at.slice_bounds-apply-end c).After-in_order)

pub slice_bounds-apply-end-2 : goal.slice_bounds-apply-end-2
slice_bounds-apply-end-2 c = front_fits _ _ _ (tabulate-length _ _) (weights (goal.at.slice_bounds-apply-end-2 c).After-fill_weights)

pub returns : goal.returns
returns c =
    c.apply.ensures
    ∙ columns_weighed _ _ _ _ _ _ c.requires.1 _ _ _ (front_read _ _ _ (tabulate-length _ _) (order (goal.at.returns c).After-in_order))
    (front_read _ _ _ (tabulate-length _ _) (weights (goal.at.returns c).After-fill_weights)) refl
