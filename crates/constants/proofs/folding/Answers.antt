-- `folding` meets its contract: numbers that do not fit, or the weights at the points that were filled in.
use mathlib.Core.Path.{◌≡◌}
use native.Mathlib.Nat.{mul-le-mul}
use native.Mathlib.Omega.{arith}
use Rattle.points.specs.Points.{parity_points}
use Rattle.points.proofs.Distinct.{parity_points-length}
use Rattle.constants.proofs.Points.{fold_points-length}
use Rattle.constants.proofs.Constants.{front_fits, front_read, parity_filled, folds_left, folds_made}
use Rattle.constants.proofs.folding.Goals as goal
use Rattle.constants.proofs.folding.Goals.{After-descending}

new_points : (c : After-descending) → let a = c.args in
    c.descending.new.out ≡ parity_points a.r
new_points c = parity_filled _ _ _ c.if-r-gt-MADE.false c.descending.ensures

pub returns-then-k-gt-POINTS : goal.returns-then-k-gt-POINTS
returns-then-k-gt-POINTS c = folds_left _ _ _ _ (λ a b d e. omega (arith, c.if-k-gt-POINTS.true))

pub returns-then-r-gt-MADE : goal.returns-then-r-gt-MADE
returns-then-r-gt-MADE c = folds_left _ _ _ _ (λ a b d e. omega (arith, c.if-r-gt-MADE.true))

pub returns-then-n-gt-POINTS : goal.returns-then-n-gt-POINTS
returns-then-n-gt-POINTS c = folds_left _ _ _ _ (λ a b d e. omega (arith, c.if-n-gt-POINTS.true))

pub overflow_mul-n : goal.overflow_mul-n
overflow_mul-n c = omega (arith, mul-le-mul c.if-n-gt-POINTS.false c.if-r-gt-MADE.false)

pub returns-then-n-r-gt-POINTS : goal.returns-then-n-r-gt-POINTS
returns-then-n-r-gt-POINTS c = folds_left _ _ _ _ (λ a b d e. omega (arith, c.if-n-r-gt-POINTS.true))

pub slice_bounds-weights-end : goal.slice_bounds-weights-end
slice_bounds-weights-end c = front_fits _ _ _ (parity_points-length _) (new_points (goal.at.slice_bounds-weights-end c).After-descending)

pub slice_bounds-weights-end-2 : goal.slice_bounds-weights-end-2
slice_bounds-weights-end-2 c = front_fits _ _ _ (fold_points-length _ _ _) c.fill_fold_points.ensures

pub returns : goal.returns
returns c =
    let New-is = front_read _ _ _ (parity_points-length _) (new_points (goal.at.returns c).After-descending) in
    let old-is = front_read _ _ _ (fold_points-length _ _ _) c.fill_fold_points.ensures in
    let made = folds_made _ _ _ _ c.if-k-gt-POINTS.false c.if-r-gt-MADE.false c.if-n-gt-POINTS.false c.if-n-r-gt-POINTS.false in
    made New-is old-is c.weights.ensures
