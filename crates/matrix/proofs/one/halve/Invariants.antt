-- `halve` meets its contract: the first q bytes are halved.
use Prim.Native.Nat.{ℕ, ◌/◌}
use Rattle.lanes.proofs.Onto.{Turned}
use Rattle.matrix.proofs.one.halve.Given as goal

abbrev pub invariant-loop-x : goal.invariant-loop-x
invariant-loop-x l = Turned (λ (x y : ℕ). x / 2) l.initial.p l.initial.p l.p l.x-index
