-- `solve_runs` meets its contract.
use Prim.Native.Nat.{ℕ}
use mathlib.Core.Path.{◌≡◌}
use mathlib.Core.List.{List}
use lib.ListN.{length}
use Rattle.field.specs.Bytes.{Bytes}
use Rattle.syndromes.specs.Syndromes.{Syndromes}
use Rattle.mending.specs.Scratch.{SolvedBelow}
use Rattle.mending.proofs.run.solve_runs.Given as goal

abbrev pub invariant-loop-b : goal.invariant-loop-b
invariant-loop-b l =
    (length l.slots ≡ length l.initial.slots)
    × (Bytes l.slots × ((xs : List ℕ) → Bytes xs → Syndromes l.s l.p.pivot xs l.initial.slots → SolvedBelow l.s l.p xs l.b l.slots))
