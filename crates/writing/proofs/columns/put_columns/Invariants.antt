-- `put_columns` meets its contract: storing the surviving columns left over what is stored gives all of them.
use Prim.Native.Nat.{◌-◌, ◌*◌}
use mathlib.Core.Path.{◌≡◌}
use lib.ListN.{length, drop}
use lib.Seq.{sets}
use Rattle.record.specs.Layout.{survivors}
use Rattle.record.proofs.Survivors.{Walk}
use Rattle.writing.proofs.columns.put_columns.Given as goal

abbrev pub invariant-loop-c : goal.invariant-loop-c
invariant-loop-c l =
    Walk l.lost l.l l.n (length l.initial.out) l.c l.at
    × (sets l.out l.at (survivors l.l l.lost l.c (l.n - l.c) (drop (l.c * l.l) l.stripe)) ≡ sets l.initial.out l.first (survivors l.l l.lost 0 l.n l.stripe))
