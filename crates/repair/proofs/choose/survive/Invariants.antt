-- `survive` meets its contract: the survivors below c are there, and the lost positions passed are those below c.
use Prim.Native.Nat.{◌≤◌}
use mathlib.Core.Path.{◌≡◌}
use lib.ListN.{length}
use Rattle.repair.proofs.Chosen.{Walked}
use Rattle.repair.proofs.choose.survive.Given as goal

abbrev pub invariant-loop-c : goal.invariant-loop-c
invariant-loop-c l = (length l.out ≡ length l.initial.out) × (l.v ≤ length l.lost) × Walked l.n l.lost l.c l.v l.m l.out
