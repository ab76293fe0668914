-- `fill_columns` meets its contract: restoring the columns left behind what is restored gives the whole stripe.
use Prim.Native.Nat.{◌-◌, ◌*◌}
use mathlib.Core.Path.{◌≡◌}
use mathlib.Core.List.{◌++◌}
use lib.ListN.{length, take, drop}
use Rattle.record.specs.Layout.{restored}
use Rattle.record.proofs.Survivors.{Walk}
use Rattle.record.proofs.columns.fill_columns.Given as goal

abbrev pub invariant-loop-c : goal.invariant-loop-c
invariant-loop-c l =
    (l.to ≡ l.c * l.l)
    × (Walk l.lost l.l l.n (length l.from) l.c l.at
    × (take (l.c * l.l) l.stripe ++ restored l.l l.lost l.c (l.n - l.c) (drop l.at l.from) (drop (l.c * l.l) l.stripe)
    ≡ restored l.l l.lost 0 l.n l.from l.initial.stripe))
