-- `solve` of one point meets its contract.
use Rattle.mending.proofs.Slots.{solved_last}
use Rattle.mending.proofs.solve.OneSolve.solve.Goals as goal

pub returns : goal.returns
returns c =
    let if1 = c.if-points-eq0 in
    let a = c.args in
    let w = c.requires in
    let f = c.first_value in
    solved_last a.points.now a.weights.now a.at a.d a.n a.slots.now f.new.slots if1.false w.1.0 w.1.1 w.0.wide
    f.ensures
