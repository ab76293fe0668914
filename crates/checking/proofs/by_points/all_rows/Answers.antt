-- `all_rows` meets its contract: what is kept is found in the first i rows.
use Rattle.checking.proofs.Windows.{row_turn, rows_none, rows_done}
use Rattle.checking.proofs.by_points.all_rows.Goals as goal
use Rattle.checking.proofs.by_points.all_rows.Goals.{In-loop-i}

pub loop-i-init : goal.loop-i-init
loop-i-init c = λ ys w h. rows_none _ _ _ ys _ _ _ h

pub loop-i-preserved : goal.loop-i-preserved
loop-i-preserved c =
    let a = c.args in
    λ ys w h.
    row_turn a.lent.now a.made.now _ _ _ _ _ c.loop-i-test.true c.requires.1.1.0 c.requires.0 c.requires.1.0 ys w _ _ _
    c.difference-d.ensures c.earlier-c.ensures (c.loop-i.invariant ys w h)

pub returns : goal.returns
returns c = λ ys w h. rows_done _ _ _ ys _ _ _ _ c.loop-i-test.false (c.loop-i.invariant ys w h)
