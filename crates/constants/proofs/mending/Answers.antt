-- `mending` meets its contract: numbers that do not fit, or the weights at the chosen points.
use Prim.Native.Nat.{ℕ, ◌+◌, ◌≤◌}
use mathlib.Core.Path.{◌≡◌, ap, ◌∙◌}
use mathlib.Core.List.{List}
use native.Mathlib.Omega.{arith}
use Rattle.points.specs.Points.{points}
use Rattle.points.specs.Mending.{entries}
use Rattle.points.proofs.Distinct.{points-length}
use Rattle.points.proofs.Mended.{entries-length}
use Rattle.constants.proofs.Constants.{front_fits, front_read, all_filled, mends_left, mends_high, mends_wide, mends_made}
use Rattle.constants.proofs.mending.Goals as goal
use Rattle.constants.proofs.mending.Goals.{After-fill_chosen, After-fill_chosen-2, After-fill_points}

fits : (c : After-fill_points) → let a = c.args in a.k + a.r ≤ 255
fits c = omega (arith, c.if-k-gt-POINTS.false, c.if-k-r.false)

all-points : (c : After-fill_points) → let a = c.args in
    c.fill_points.new.out ≡ points a.k a.r
all-points c = all_filled _ _ _ _ (fits c) c.fill_points.ensures

new_points : (c : After-fill_chosen) → let a = c.args in
    c.fill_chosen.new.out ≡ entries (points a.k a.r) a.to.now
new_points c =
    let a = c.args in
    c.fill_chosen.ensures
    ∙ ap (λ (bs : List ℕ). entries bs a.to.now)
    (front_read _ _ _ (points-length _ _) (all_filled _ _ _ _ (omega (arith, c.if-k-gt-POINTS.false, c.if-k-r.false)) c.fill_points.ensures))

old-points : (c : After-fill_chosen-2) → let a = c.args in
    c.fill_chosen-2.new.out ≡ entries (points a.k a.r) a.from.now
old-points c =
    let a = c.args in
    c.fill_chosen-2.ensures
    ∙ ap (λ (bs : List ℕ). entries bs a.from.now)
    (front_read _ _ _ (points-length _ _) (all_filled _ _ _ _ (omega (arith, c.if-k-gt-POINTS.false, c.if-k-r.false)) c.fill_points.ensures))

pub returns-then-k-gt-POINTS : goal.returns-then-k-gt-POINTS
returns-then-k-gt-POINTS c = mends_left _ _ _ _ _ (omega (arith, c.if-k-gt-POINTS.true))

pub returns-then-k-r : goal.returns-then-k-r
returns-then-k-r c = mends_left _ _ _ _ _ (omega (arith, c.if-k-r.true))

pub returns-then-to-gt-MADE : goal.returns-then-to-gt-MADE
returns-then-to-gt-MADE c = mends_high _ _ _ _ _ c.if-to-gt-MADE.true

pub returns-then-from-gt-POINTS : goal.returns-then-from-gt-POINTS
returns-then-from-gt-POINTS c = mends_wide _ _ _ _ _ c.if-from-gt-POINTS.true

pub slice_bounds-fill_chosen-end : goal.slice_bounds-fill_chosen-end
slice_bounds-fill_chosen-end c = front_fits _ _ _ (points-length _ _) (all-points (goal.at.slice_bounds-fill_chosen-end c).After-fill_points)

pub slice_bounds-fill_chosen-end-2 : goal.slice_bounds-fill_chosen-end-2
slice_bounds-fill_chosen-end-2 c = front_fits _ _ _ (points-length _ _) (all-points (goal.at.slice_bounds-fill_chosen-end-2 c).After-fill_points)

pub slice_bounds-weights-end : goal.slice_bounds-weights-end
slice_bounds-weights-end c = front_fits _ _ _ (entries-length _ _) (new_points (goal.at.slice_bounds-weights-end c).After-fill_chosen)

pub slice_bounds-weights-end-2 : goal.slice_bounds-weights-end-2
slice_bounds-weights-end-2 c = front_fits _ _ _ (entries-length _ _) (old-points (goal.at.slice_bounds-weights-end-2 c).After-fill_chosen-2)

pub returns : goal.returns
returns c =
    let New-is = front_read _ _ _ (entries-length _ _) (new_points (goal.at.returns c).After-fill_chosen) in
    let old-is = front_read _ _ _ (entries-length _ _) (old-points (goal.at.returns c).After-fill_chosen-2) in
    mends_made _ _ _ _ _ (fits (goal.at.returns c).After-fill_points) New-is old-is c.weights.ensures
