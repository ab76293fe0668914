-- `settle` meets its contract.
use Prim.Native.Nat.{ℕ}
use mathlib.Core.Path.{◌≡◌}
use mathlib.Core.List.{List}
use lib.ListN.{length}
use Rattle.field.specs.Bytes.{Bytes}
use Rattle.stripe.specs.Stripe.{runs}
use Rattle.mending.specs.Scratch.{SolvedBelow, SettledBelow}
use Rattle.mending.proofs.settle.settle.Given as goal

abbrev pub invariant-loop-j : goal.invariant-loop-j
invariant-loop-j l =
    (length l.slots ≡ length l.initial.slots)
    × ((xs : List ℕ) → Bytes xs → SolvedBelow l.s l.p xs (runs l.s) l.initial.slots → SettledBelow l.s l.p xs l.j l.slots)
