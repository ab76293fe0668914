-- `fill_weights` meets its contract: the first i weights are there.
use Prim.Native.Nat.{ℕ, ◌*◌, ◌<◌}
use mathlib.Core.Path.{◌≡◌}
use lib.ListN.{length, get_or}
use Rattle.field.specs.Field.{gpow}
use Rattle.fold.proofs.plain.fill_weights.Given as goal

abbrev pub invariant-loop-i : goal.invariant-loop-i
invariant-loop-i l = (length l.w ≡ length l.initial.w) × ((q : ℕ) → q < l.i → get_or l.w q 0 ≡ gpow (q * l.e))
