-- `ascends_below` meets its contract: all positions ascend where those left do, above the last one.
use Prim.Native.Nat.{ℕ, ◌+◌}
use mathlib.Core.Path.{refl, sym, ap, ◌∙◌}
use native.Mathlib.Omega.{arith}
use lib.ListN.{drop}
use Rattle.stripe.specs.Stripe.{ascending}
use Rattle.writing.proofs.Putting.{ascends_low, ascends_high, ascends_turn, ascends_done}
use Rattle.writing.proofs.ascends_below.Goals as goal

pub loop-position-init : goal.loop-position-init
loop-position-init c = refl

pub returns-then-e-least : goal.returns-then-e-least
returns-then-e-least c =
    let a = c.args in
    let v = c.loop-position in
    sym (v.invariant ∙ ascends_low a.lost.now a.n v.least v.position-index c.loop-position-test.true (omega arith))

pub returns-then-n-e : goal.returns-then-n-e
returns-then-n-e c =
    let a = c.args in
    let v = c.loop-position in
    sym (v.invariant ∙ ascends_high a.lost.now a.n v.least v.position-index c.loop-position-test.true (omega arith) (omega arith))

pub overflow_add-least : goal.overflow_add-least
overflow_add-least c = omega (arith, c.type_inv.lost c.loop-position.position-index)

pub loop-position-preserved : goal.loop-position-preserved
loop-position-preserved c =
    let a = c.args in
    let v = c.loop-position in
    v.invariant ∙ ascends_turn a.lost.now a.n v.least v.position-index c.loop-position-test.true (omega arith) (omega arith)
    ∙ ap (λ (e : ℕ). ascending (e + 1) a.n (drop (v.position-index + 1) a.lost.now)) (sym c.from-e.ensures)

pub returns : goal.returns
returns c =
    let v = c.loop-position in
    sym (v.invariant ∙ ascends_done c.args.lost.now c.args.n v.least v.position-index c.loop-position-test.false)
