-- `set_apart` meets its contract: each entry is one weight set apart, where there is one.
use Prim.Native.Nat.{ℕ, ◌+◌, ◌<◌}
use mathlib.Core.List.{List}
use mathlib.Core.Path.{◌≡◌}
use lib.ListN.{length, get_or}
use Rattle.field.specs.Field.{◌⊕◌, ◌⊗◌}
use Rattle.stripe.specs.Shape.{most_rows}
use Rattle.mending.proofs.solve.set_apart.Given as goal

-- x is the weight of point u + 1 set apart
abbrev pub Apart : List ℕ → List ℕ → ℕ → ℕ → Type 0
Apart bs ws u x = u + 1 < length bs → x ≡ get_or ws (u + 1) 0 ⊗ (get_or bs (u + 1) 0 ⊕ get_or bs 0 0)

abbrev pub invariant-loop-v : goal.invariant-loop-v
invariant-loop-v l = (length l.w ≡ most_rows) × ((u : ℕ) → u < l.v → Apart l.points l.weights u (get_or l.w u 0))
