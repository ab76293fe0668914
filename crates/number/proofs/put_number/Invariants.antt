-- `put_number` meets its contract: storing the groups left over what is stored gives the whole number.
use Prim.Native.Nat.{◌+◌, ◌≤◌}
use mathlib.Core.Path.{◌≡◌}
use lib.ListN.{length}
use lib.Seq.{sets}
use Rattle.number.specs.Number.{written}
use Rattle.number.proofs.put_number.Given as goal

abbrev pub invariant-loop-v : goal.invariant-loop-v
invariant-loop-v l =
    (l.v ≤ 4294967295) × ((length l.out ≡ length l.initial.out)
    × ((l.i + length (written l.v) ≤ length l.out) × (sets l.out l.i (written l.v) ≡ sets l.initial.out l.at (written l.value))))

abbrev pub decreases-loop-v : goal.decreases-loop-v
decreases-loop-v l = l.v
