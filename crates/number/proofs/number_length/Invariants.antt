-- `number_length` meets its contract: what was counted and the groups left are all groups.
use Prim.Native.Nat.{◌+◌, ◌≤◌}
use mathlib.Core.Path.{◌≡◌}
use lib.ListN.{length}
use Rattle.number.specs.Number.{written}
use Rattle.number.proofs.number_length.Given as goal

abbrev pub invariant-loop-v : goal.invariant-loop-v
invariant-loop-v l = (l.v ≤ 4294967295) × (l.n + length (written l.v) ≡ length (written l.value) + 1)

abbrev pub decreases-loop-v : goal.decreases-loop-v
decreases-loop-v l = l.v
