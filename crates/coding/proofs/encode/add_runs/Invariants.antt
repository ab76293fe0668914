-- `add_runs` meets its contract: the runs before j have their piggybacks.
use Prim.Native.Nat.{ℕ, ◌*◌, ◌≤◌}
use mathlib.Core.Path.{◌≡◌}
use Rattle.stripe.specs.declared.Shape.{Shape}
use Rattle.stripe.specs.Stripe.{run_length}
use Rattle.coding.specs.Encode.{Beside}
use Rattle.coding.proofs.Piggyback.{Piggybacked}
use Rattle.coding.proofs.encode.add_runs.Given as goal

abbrev pub shape : ℕ → ℕ → ℕ → ℕ → Shape
shape k r t l = record { k = k; r = r; t = t; l = l }

abbrev pub invariant-loop-j : goal.invariant-loop-j
invariant-loop-j l =
    (l.r ≤ l.j) × (l.j ≤ l.t) × (l.m ≡ run_length (shape l.k l.r l.t l.l)) × Piggybacked (shape l.k l.r l.t l.l) l.data l.i (l.j * l.m) l.out
    × Beside l.l l.i l.initial.out l.out
