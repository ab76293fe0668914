-- `fill_constants` meets its contract: as many columns of each stripe are read as are fewer.
use mathlib.Core.Path.{◌∙◌}
use native.Mathlib.Omega.{arith}
use Rattle.fold.proofs.ByPoints.{wide_fits, reads_any, data_made, parity_made}
use Rattle.fold.proofs.by_points.fill_constants.Goals as goal

pub overflow_mul-stripes : goal.overflow_mul-stripes
overflow_mul-stripes c = let p = c.requires in omega (arith, wide_fits _ _ _ _ (reads_any _ _ p.0 p.1.0))

pub returns-then-k-r : goal.returns-then-k-r
returns-then-k-r c =
    let p = c.requires in
    c.encoding.ensures ∙ data_made _ _ _ _ (reads_any _ _ p.0 p.1.0) _ p.1.1 c.if-k-r.true

pub returns : goal.returns
returns c =
    let p = c.requires in
    c.folding.ensures ∙ parity_made _ _ _ _ (reads_any _ _ p.0 p.1.0) _ p.1.1 c.if-k-r.false
