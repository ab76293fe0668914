-- `ascending` meets its contract: the first powers are there, and x is the next.
use Prim.Native.Nat.{ℕ, ◌<◌}
use mathlib.Core.Path.{◌≡◌}
use lib.ListN.{get_or}
use Rattle.field.specs.Field.{gpow}
use Rattle.constants.proofs.ascending.Given as goal

abbrev pub invariant-loop-place : goal.invariant-loop-place
invariant-loop-place l = (l.x ≡ gpow l.place-index) × ((q : ℕ) → q < l.place-index → get_or l.out q 0 ≡ gpow q)
