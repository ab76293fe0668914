-- `ascends_below` meets its contract: all positions ascend where those left do, above the last one.
use mathlib.Core.Path.{◌≡◌}
use lib.ListN.{drop}
use Rattle.stripe.specs.Stripe.{ascending}
use Rattle.writing.proofs.ascends_below.Given as goal

abbrev pub invariant-loop-position : goal.invariant-loop-position
invariant-loop-position l = ascending 0 l.n l.lost ≡ ascending l.least l.n (drop l.position-index l.lost)
