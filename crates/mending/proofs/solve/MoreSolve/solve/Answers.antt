-- `solve` of one point more meets its contract.
use Rattle.mending.proofs.Slots.{solved_turn}
use Rattle.mending.proofs.solve.MoreSolve.solve.Goals as goal

pub returns : goal.returns
returns g c =
    let if1 = c.if-e-eq0 in
    let set_apart = c.set_apart-w in
    let a = c.args in
    let w = c.requires in
    let k = c.clear in
    let s = c.solve in
    let f = c.first_value in
    solved_turn a.points.now a.weights.now a.at a.d a.n a.slots.now k.new.slots set_apart.result s.new.slots
    f.new.slots
    if1.false w.1.0 w.0.few w.0.wide k.ensures set_apart.ensures s.ensures f.ensures
