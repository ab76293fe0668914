-- `straight` meets its contract: Horner's rule over the bits from b on.
use Prim.Native.Nat.{ℕ, ◌+◌, ◌-◌, ◌<◌}
use mathlib.Core.Path.{◌≡◌}
use lib.ListN.{get_or}
use Rattle.matrix.specs.Sums.{fall, picked}
use Rattle.matrix.proofs.straight.Given as goal

abbrev pub invariant-loop-b : goal.invariant-loop-b
invariant-loop-b l = (q : ℕ) → q < 64 → get_or l.y q 0 ≡ fall (8 - l.b) l.b (λ d. picked l.t l.es (l.row + d) l.n q)
