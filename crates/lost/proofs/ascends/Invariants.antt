-- `ascends` meets its contract: what is left of the list ascends from the least position that may follow.
use mathlib.Core.Path.{◌≡◌}
use Rattle.stripe.specs.Stripe.{ascending}
use Rattle.lost.specs.Positions.{positions}
use Rattle.lost.proofs.ascends.Given as goal

abbrev pub invariant-loop-pair : goal.invariant-loop-pair
invariant-loop-pair l =
    let left = l.pair-iterator in
    (left.size ≡ 2) × (ascending 0 l.n (positions l.list) ≡ ascending l.least l.n (positions left.rest.now))
