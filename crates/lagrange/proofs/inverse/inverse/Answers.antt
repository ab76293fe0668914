-- `inverse` meets its contract: its steps are powers of x, up to 254.
use mathlib.Core.Path.{◌∙◌}
use native.Mathlib.Omega.{arith}
use Rattle.lagrange.proofs.Powers.{inverse_made, squared, to_fourth, to_sixteenth}
use Rattle.lagrange.proofs.inverse.inverse.Goals as goal

pub returns : goal.returns
returns c =
    let x = c.args.x in
    let x2 = c.image.ensures ∙ squared x (omega (arith, c.ranges.x)) in
    let x12 = c.image-2.ensures ∙ to_fourth c.product-x3.result.0 (omega arith) in
    let x240 = c.image-3.ensures ∙ to_sixteenth c.product-x15.result.0 (omega arith) in
    inverse_made x x2 c.product-x3.ensures x12 c.product-x14.ensures c.product-x15.ensures x240 c.product-x254.ensures
