-- `ascends` meets its contract: what is left of the list ascends from the least position that may follow.
use mathlib.Core.Path.{◌≡◌}
use lib.ListN.{drop}
use Rattle.stripe.specs.Stripe.{ascending}
use Rattle.repair.proofs.ascends.Given as goal

abbrev pub invariant-loop-e : goal.invariant-loop-e
invariant-loop-e l = ascending 0 l.n l.lost ≡ ascending l.least l.n (drop l.e-index l.lost)
