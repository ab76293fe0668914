-- `ascends` meets its contract: what is left of the list ascends from the least position that may follow.
use mathlib.Core.Path.{sym, ◌∙◌}
use native.Mathlib.Omega.{arith}
use Rattle.repair.proofs.Refused.{low, high, next, done}
use Rattle.repair.proofs.ascends.Goals as goal
use Rattle.repair.proofs.ascends.Goals.{then-e-least-via-then-e-least, then-e-least-via-else-e-least+then-n-e}

pub returns-then-e-least : goal.returns-then-e-least
returns-then-e-least c =
    let at = c.loop-e in
    let ls = c.args.lost.now in
    elim c.then-e-least.branch [
      | then-e-least-via-then-e-least w ↦ sym (at.invariant ∙ low ls at.least _ at.e-index (omega arith) w.if-e-least.true)
      | then-e-least-via-else-e-least+then-n-e w ↦ sym (at.invariant ∙ high ls at.least _ at.e-index (omega arith) w.if-e-least.false w.if-n-e.true)
    ]

pub loop-e-preserved : goal.loop-e-preserved
loop-e-preserved c =
    let at = c.loop-e in at.invariant ∙ next c.args.lost.now at.least _ at.e-index (omega arith) c.if-e-least.false c.if-n-e.false

pub returns : goal.returns
returns c = sym (c.loop-e.invariant ∙ done c.args.lost.now _ _ c.loop-e.e-index (omega arith))
