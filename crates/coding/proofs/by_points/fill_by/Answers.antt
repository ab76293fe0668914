-- `fill_by` meets its contract: the constants of the shape, applied to the data columns in order, are the parity.
use Prim.Native.Nat.{ℕ, ◌*◌, ◌%◌, ◌≤◌}
use mathlib.Core.Path.{◌≡◌, refl, ap₂, ◌∙◌}
use mathlib.Core.List.{List}
use mathlib.Core.Bool.{true}
use native.Mathlib.Omega.{arith}
use Rattle.stripe.proofs.Lent.{lent}
use Rattle.field.specs.Bytes.{tabulate}
use Rattle.field.proofs.Bytes.{tabulate-length}
use Rattle.stripe.specs.declared.Shape.{Shape}
use Rattle.stripe.specs.Stripe.{by_points}
use Rattle.stripe.specs.Column.{lent_refusal}
use Rattle.matrix.specs.Matrix.{becomes}
use Rattle.constants.proofs.Constants.{front_fits, front_read}
use Rattle.coding.proofs.ByPoints.{pointed, order_filled, parity_filled}
use Rattle.coding.proofs.by_points.fill_by.Goals as goal
use Rattle.coding.proofs.by_points.fill_by.Goals.{After-in_order}

few : (s : Shape) (d p n : ℕ) → (lent_refusal s d p ≡ 0) × ((by_points s ≡ true) × (n ≡ s.r * s.k)) → s.k ≤ 255
few s d p n h = omega (arith, (pointed s (lent s d p h.0).shape h.1.0).fits)

order : (c : After-in_order) → c.in_order.new.out ≡ tabulate c.args.s.k (λ i. i % 256)
order c =
    order_filled _ _ _ (few c.args.s _ _ _ c.requires) c.in_order.ensures

pub slice_bounds-at-end : goal.slice_bounds-at-end
slice_bounds-at-end c = few c.args.s _ _ _ c.requires

pub slice_bounds-apply-end : goal.slice_bounds-apply-end
slice_bounds-apply-end c = front_fits _ _ _ (tabulate-length _ _) (order (goal.at.slice_bounds-apply-end c).After-in_order)

pub returns : goal.returns
returns c =
    let encoding = c.encoding in
    let a = c.args in
    c.apply.ensures
    ∙ ap₂ (λ (at ms : List ℕ). becomes a.s.r at ms a.«data».now 0 a.s.l a.s.l a.out.now)
    (front_read _ _ _ (tabulate-length _ _) (order (goal.at.returns c).After-in_order)) encoding.ensures
    ∙ parity_filled a.s a.«data».now a.out.now c.requires.0 c.requires.1.0 a.w.now _ c.requires.1.1 refl
