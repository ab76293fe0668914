-- `clear` meets its contract.
use Prim.Native.Nat.{◌≤◌}
use Rattle.mending.proofs.Slots.{Clearing}
use Rattle.mending.proofs.solve.clear.Given as goal

abbrev pub invariant-loop-u : goal.invariant-loop-u
invariant-loop-u l = (1 ≤ l.u) × Clearing l.c l.e l.at l.d l.n l.initial.slots l.slots l.u
