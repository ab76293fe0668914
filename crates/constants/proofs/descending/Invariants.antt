-- `descending` meets its contract: the powers from place i on are there, and x is the one before them.
use Prim.Native.Nat.{ℕ, ◌+◌, ◌-◌, ◌<◌, ◌≤◌}
use mathlib.Core.Path.{◌≡◌}
use lib.ListN.{get_or}
use Rattle.field.specs.Field.{gpow}
use Rattle.constants.proofs.descending.Given as goal

abbrev pub invariant-loop-i : goal.invariant-loop-i
invariant-loop-i l = (l.x ≡ gpow (l.e + 1 - l.i)) × ((q : ℕ) → l.i ≤ q → q < l.n → get_or l.out q 0 ≡ gpow (l.e - q))
