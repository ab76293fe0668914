-- `fill_chosen` meets its contract: the first v entries are there.
use Prim.Native.Nat.{ℕ, ◌<◌}
use mathlib.Core.Path.{◌≡◌}
use lib.ListN.{get_or}
use Rattle.constants.proofs.fill_chosen.Given as goal

abbrev pub invariant-loop-v : goal.invariant-loop-v
invariant-loop-v l = (q : ℕ) → q < l.v → get_or l.out q 0 ≡ get_or l.points (get_or l.at q 0) 0
