-- `block` meets its contract: each lane of each row is Lagrange's polynomial, and the rows are laid out.
use Rattle.lagrange.proofs.Filled.{filled_turn}
use Rattle.lagrange.proofs.block.Goals as goal

pub returns : goal.returns
returns c =
    let h = c.requires.1 in
    let a = c.args in
    filled_turn a.of.now.points.now a.ys.now c.lanes_of-y.result a.at a.w h.0 c.lanes_of-y.ensures.1 c.polynomials.ensures
    c.lay.ensures h.1.1
