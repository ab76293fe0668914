-- `few_of` meets its contract: after v turns the first v positions stand in the array.
use Prim.Native.Nat.{ℕ, ◌<◌}
use mathlib.Core.Path.{◌≡◌}
use lib.ListN.{length, get_or}
use Rattle.stripe.specs.Shape.{most_rows}
use Rattle.mending.proofs.few.few_of.Given as goal

abbrev pub invariant-loop-v : goal.invariant-loop-v
invariant-loop-v l = (length l.at ≡ most_rows) × ((u : ℕ) → u < l.v → get_or l.at u 0 ≡ get_or l.all u 0)
