-- `is_lost` meets its contract: the position is among all where it is among those left.
use mathlib.Core.Path.{refl, sym, ◌∙◌}
use Rattle.stripe.proofs.Lost.{among_found, among_turn, among_none}
use Rattle.stripe.proofs.is_lost.Goals as goal

pub loop-e-init : goal.loop-e-init
loop-e-init c = refl

pub returns-then-c-from : goal.returns-then-c-from
returns-then-c-from c =
    let found = among_found c.args.lost.now c.loop-e.e-index c.args.c c.loop-e-test.true (sym (c.if-c-from.true ∙ c.from.ensures)) in
    sym (c.loop-e.invariant ∙ found)

pub loop-e-preserved : goal.loop-e-preserved
loop-e-preserved c =
    c.loop-e.invariant ∙ among_turn c.args.lost.now c.loop-e.e-index c.args.c c.loop-e-test.true
    (λ h. c.if-c-from.false (sym (c.from.ensures ∙ h)))

pub returns : goal.returns
returns c =
    sym (c.loop-e.invariant ∙ among_none c.args.lost.now c.loop-e.e-index c.args.c c.loop-e-test.false)
