-- `lost_of` meets its contract: after i turns the first i positions stand in the array, and zeros after them.
use mathlib.Core.Path.{sym, ◌∙◌}
use native.Mathlib.Omega.{arith}
use lib.ListN.{length-set}
use lib.Seq.{get_or-set_same, get_or-set_other}
use borrow.Author.Count.{below_more}
use Rattle.lost.proofs.Listed.{positions_at_lem, made}
use Rattle.lost.proofs.lost_of.Goals as goal

pub loop-i-preserved : goal.loop-i-preserved
loop-i-preserved c =
    let at = c.loop-i in
    let e = c.position.result in (
      simp length-set at.invariant.0,
      below_more _ _ (λ j h. get_or-set_other at.at at.i j e 0 (λ q. omega (arith, q)) ∙ at.invariant.1 j h)
          (get_or-set_same at.at at.i e 0 (omega arith) ∙ c.position.ensures.0 ∙ sym (positions_at_lem c.args.list.now at.i (omega arith))),
      λ j h. get_or-set_other at.at at.i j e 0 (λ q. omega (arith, q)) ∙ at.invariant.2 j (omega arith),
    )

pub returns-then-count-i : goal.returns-then-count-i
returns-then-count-i c =
    let at = c.loop-i.invariant in
    made c.args.list.now c.loop-i.at c.loop-i.i (omega (arith, c.if-count-i.true)) at.0 at.1 at.2

pub returns : goal.returns
returns c =
    let at = c.loop-i.invariant in
    made c.args.list.now c.loop-i.at c.loop-i.i (omega (arith, c.loop-i-test.false)) at.0 at.1 at.2
