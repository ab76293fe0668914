-- `fill_lost` meets its contract: the positions left behind those stored are all of them.
use Prim.Native.Nat.{ℕ, ◌-◌, ◌<◌}
use mathlib.Core.Path.{◌≡◌}
use lib.ListN.{get_or}
use Rattle.field.specs.Bytes.{over}
use Rattle.record.specs.Reading.{positions_at}
use Rattle.record.proofs.read.fill_lost.Given as goal

abbrev pub invariant-loop-i : goal.invariant-loop-i
invariant-loop-i l =
    ((j : ℕ) → get_or (positions_at l.s (l.m - l.i) l.at) j 0 < 65536)
    × (over l.lost l.i (positions_at l.s (l.m - l.i) l.at) ≡ over l.initial.lost 0 (positions_at l.s l.m l.first))
