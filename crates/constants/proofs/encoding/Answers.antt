-- `encoding` meets its contract: numbers that do not fit, or the weights at the points that were filled in.
use Prim.Native.Nat.{◌+◌, ◌≤◌}
use mathlib.Core.Path.{◌≡◌}
use native.Mathlib.Omega.{arith}
use Rattle.points.specs.Points.{data_points, parity_points}
use Rattle.points.proofs.Distinct.{data_points-length, parity_points-length}
use Rattle.constants.proofs.Constants.{front_fits, front_read, parity_filled, data_filled, encodes_left, encodes_high, encodes_made}
use Rattle.constants.proofs.encoding.Goals as goal
use Rattle.constants.proofs.encoding.Goals.{After-ascending, After-descending, Else-r-gt-MADE}

fits : (c : Else-r-gt-MADE) → let a = c.args in a.k + a.r ≤ 255
fits c = omega (arith, c.if-k-gt-POINTS.false, c.if-k-r.false)

new_points : (c : After-descending) → let a = c.args in c.descending.new.out ≡ parity_points a.r
new_points c = parity_filled _ _ _ c.if-r-gt-MADE.false c.descending.ensures

old-points : (c : After-ascending) → c.ascending.new.out ≡ data_points c.args.k
old-points c = data_filled _ _ _ c.if-k-gt-POINTS.false c.ascending.ensures

pub returns-then-k-gt-POINTS : goal.returns-then-k-gt-POINTS
returns-then-k-gt-POINTS c = encodes_left _ _ _ (omega (arith, c.if-k-gt-POINTS.true))

pub returns-then-k-r : goal.returns-then-k-r
returns-then-k-r c = encodes_left _ _ _ (omega (arith, c.if-k-r.true))

pub returns-then-r-gt-MADE : goal.returns-then-r-gt-MADE
returns-then-r-gt-MADE c = encodes_high _ _ _ c.if-r-gt-MADE.true

pub slice_bounds-weights-end : goal.slice_bounds-weights-end
slice_bounds-weights-end c = front_fits _ _ _ (parity_points-length _) (new_points (goal.at.slice_bounds-weights-end c).After-descending)

pub slice_bounds-weights-end-2 : goal.slice_bounds-weights-end-2
slice_bounds-weights-end-2 c = front_fits _ _ _ (data_points-length _) (old-points (goal.at.slice_bounds-weights-end-2 c).After-ascending)

pub returns : goal.returns
returns c =
    let New-is = front_read _ _ _ (parity_points-length _) (new_points (goal.at.returns c).After-descending) in
    let old-is = front_read _ _ _ (data_points-length _) (old-points (goal.at.returns c).After-ascending) in
    encodes_made _ _ _ (fits (goal.at.returns c).Else-r-gt-MADE) New-is old-is c.weights.ensures
