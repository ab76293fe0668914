-- `weights` meets its contract: numbers that do not fit, or the weights of the first points, block by block.
use Prim.Native.Nat.{◌*◌, ◌<◌}
use mathlib.Core.Path.{◌≡◌, sym, ◌∙◌}
use mathlib.Core.Bool.{true}
use native.Mathlib.Omega.{arith}
use lib.ListN.{length}
use Rattle.lagrange.specs.Weights.{weights_fit}
use Rattle.lagrange.proofs.Filled.{Fit, weights_fit_lem, filled_start, filled_to, weighed_left, weighed_made}
use Rattle.lagrange.proofs.weights.Goals as goal
use Rattle.lagrange.proofs.weights.Goals.{Else-not-fits, In-loop-i}

fits : (c : Else-not-fits) → let a = c.args in
    weights_fit (length a.bs.now) (length a.ys.now) (length a.out.now) ≡ true
fits c = sym c.fits.ensures ∙ c.if-not-fits.false

known : (c : Else-not-fits) → let a = c.args in
    Fit (length a.bs.now) (length a.ys.now) (length a.out.now)
known c = weights_fit_lem _ _ _ (fits c)

pub returns-then-not-fits : goal.returns-then-not-fits
returns-then-not-fits c = weighed_left _ _ _ (sym c.fits.ensures ∙ c.if-not-fits.true)

pub constants-cs-requires : goal.constants-cs-requires
constants-cs-requires c = (known c).rows_most

pub invariant_of-of : goal.invariant_of-of
invariant_of-of c = record { few = (known (goal.at.invariant_of-of c).Else-not-fits).rows_most; made = c.constants-cs.ensures }

pub loop-i-init : goal.loop-i-init
loop-i-init c = filled_to _ _ (omega arith) (filled_start _ _ _ (known (goal.at.loop-i-init c).Else-not-fits).out)

-- a block begins before the last point
before : (c : In-loop-i) → c.loop-i.i * 16 < length c.args.ys.now
before c = omega (arith, c.loop-i-test.true, c.div_ceil-i-end.ensures)

pub block-requires : goal.block-requires
block-requires c =
    let f = known (goal.at.block-requires c).Else-not-fits in
    let h = before (goal.at.block-requires c).In-loop-i in
    let w = c.min-w.ensures in
    (f.points_most, (omega arith, (omega arith, filled_to _ _ (omega arith) c.loop-i.invariant)))

pub loop-i-preserved : goal.loop-i-preserved
loop-i-preserved c =
    let h = before (goal.at.loop-i-preserved c).In-loop-i in
    let w = c.min-w.ensures in filled_to _ _ (omega arith) c.block.ensures

pub returns : goal.returns
returns c =
    weighed_made _ _ _ _ (fits (goal.at.returns c).Else-not-fits) (omega (arith, c.loop-i-test.false, c.div_ceil-i-end.ensures)) c.loop-i.invariant
