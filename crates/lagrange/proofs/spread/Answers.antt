-- `spread` meets its contract: the first v rows are there.
use native.Mathlib.Omega.{arith}
use borrow.Author.Rules.{rules}
use lib.ListN.{get_or}
use Rattle.lagrange.proofs.Lanes.{row_filled, spread_start, spread_turn, spread_done}
use Rattle.lagrange.proofs.spread.Goals as goal

pub loop-v-init : goal.loop-v-init
loop-v-init c = spread_start _ _ c.told-rows

pub loop-v-preserved : goal.loop-v-preserved
loop-v-preserved c =
    let at = c.loop-v in
    let cs = c.args.cs.now in
    let put = row_filled at.v at.rows _ (omega (arith, at.invariant.long)) (get_or cs at.v 0) (c.fill.ensures.after (λ y h. search rules)) in
    spread_turn cs at.v put at.invariant

pub returns : goal.returns
returns c = spread_done _ _ c.loop-v-test.false c.loop-v.invariant
