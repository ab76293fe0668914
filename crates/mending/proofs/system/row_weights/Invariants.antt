-- `row_weights` meets its contract: each entry is the row's weight at one lost column, where there is one.
use Prim.Native.Nat.{ℕ, ◌*◌, ◌-◌, ◌<◌}
use mathlib.Core.Path.{◌≡◌}
use lib.ListN.{length, get_or}
use Rattle.field.specs.Field.{gpow}
use Rattle.mending.specs.declared.system.System.{System}
use Rattle.stripe.specs.Shape.{most_rows}
use Rattle.mending.proofs.system.row_weights.Given as goal

-- g is the weight of lost column u
abbrev pub Weighs : System → ℕ → ℕ → ℕ → ℕ → Type 0
Weighs p x j u g = u < p.count → g ≡ gpow ((get_or p.lost.at u 0 - x) * j)

abbrev pub invariant-loop-v : goal.invariant-loop-v
invariant-loop-v l = (length l.w ≡ most_rows) × ((u : ℕ) → u < l.v → Weighs l.p l.x l.j u (get_or l.w u 0))
