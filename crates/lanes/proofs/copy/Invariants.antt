-- `lanes::copy` meets its contract: after q turns the q first places are done.
use Prim.Native.Nat.{ℕ}
use Rattle.lanes.proofs.Onto.{Turned}
use Rattle.lanes.proofs.copy.Given as goal

abbrev pub invariant-loop-q : goal.invariant-loop-q
invariant-loop-q l = Turned (λ (x y : ℕ). y) l.initial.a l.d l.a l.q
