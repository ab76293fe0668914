-- `fill_computed` meets its contract: the first v lost positions are there; then the spares.
use Prim.Native.Nat.{ℕ, ◌<◌}
use mathlib.Core.Path.{◌≡◌}
use lib.ListN.{length, get_or}
use Rattle.repair.proofs.choose.fill_computed.Given as goal

abbrev pub invariant-loop-v : goal.invariant-loop-v
invariant-loop-v l = (length l.out ≡ length l.initial.out) × ((i : ℕ) → i < l.v → get_or l.out i 0 ≡ get_or l.lost i 0)
