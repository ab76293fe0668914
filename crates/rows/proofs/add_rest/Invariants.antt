-- `add_rest` meets its contract: at the places below q the row is added.
use Prim.Native.Nat.{ℕ, ◌-◌, ◌≤◌}
use mathlib.Core.Path.{◌≡◌}
use mathlib.Core.List.{List}
use lib.ListN.{length}
use Rattle.rows.specs.Rows.{Added}
use Rattle.rows.proofs.add_rest.Given as goal

abbrev pub invariant-loop-q : goal.invariant-loop-q
invariant-loop-q l =
    (l.q ≤ l.m) × ((length l.run ≡ length l.initial.run)
    × ((ps : List ℕ) → Added l.data l.k l.l l.j l.from 0 l.b ps l.initial.run → Added l.data l.k l.l l.j l.from 0 l.q ps l.run))

abbrev pub decreases-loop-q : goal.decreases-loop-q
decreases-loop-q l = l.m - l.q
