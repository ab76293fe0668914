-- `sixteenfold_all` meets its contract: after q turns the q first places are done.
use Prim.Native.Nat.{ℕ}
use Rattle.field.specs.Field.{◌⊗◌}
use Rattle.lanes.proofs.Onto.{Turned}
use Rattle.weights.proofs.sixteenfold_all.Given as goal

abbrev pub invariant-loop-x : goal.invariant-loop-x
invariant-loop-x l = Turned (λ (x y : ℕ). 16 ⊗ x) l.initial.x-items l.initial.x-items l.x-items l.x-index
