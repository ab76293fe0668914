-- `is_lost` meets its contract: the position is among all where it is among those left.
use mathlib.Core.Path.{◌≡◌}
use lib.ListN.{drop}
use Rattle.stripe.specs.Stripe.{among}
use Rattle.stripe.proofs.is_lost.Given as goal

abbrev pub invariant-loop-e : goal.invariant-loop-e
invariant-loop-e l = among l.c l.lost ≡ among l.c (drop l.e-index l.lost)
