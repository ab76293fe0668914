-- `ascends` meets its contract: what is left of the list ascends from the least position that may follow.
use mathlib.Core.Path.{sym, ◌∙◌}
use native.Mathlib.Omega.{arith}
use Rattle.lost.proofs.Listed.{pair_refused, pair_taken, no_pair}
use Rattle.lost.proofs.ascends.Goals as goal

pub returns-then-e-least : goal.returns-then-e-least
returns-then-e-least c =
    let s = c.in-Some.ensures.steps in
    let at = c.loop-pair.invariant in
    sym (at.1 ∙ pair_refused _ _ _ _ _ _ s.1.0 (s.1.1 ∙ at.0) c.position-e.ensures.0 c.then-e-least.either)

pub loop-pair-preserved : goal.loop-pair-preserved
loop-pair-preserved c =
    let s = c.in-Some.ensures.steps in
    let at = c.loop-pair.invariant in
    (s.0 ∙ at.0, at.1 ∙ pair_taken _ _ _ _ _ _ s.1.0 (s.1.1 ∙ at.0) c.position-e.ensures.0 c.if-e-least.false c.if-n-e.false)

pub returns : goal.returns
returns c =
    let s = c.in-None.ensures.steps in
    let at = c.loop-pair.invariant in
    sym (at.1 ∙ no_pair _ _ _ (omega (arith, s.1.0, at.0)))
