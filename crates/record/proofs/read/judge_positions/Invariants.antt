-- `judge_positions` meets its contract: the refusal of the positions left is that of all, and so is the place after them.
use Prim.Native.Nat.{◌-◌}
use mathlib.Core.Path.{◌≡◌}
use Rattle.record.specs.Reading.{positions_refusal, after_positions}
use Rattle.record.proofs.read.judge_positions.Given as goal

abbrev pub invariant-loop : goal.invariant-loop
invariant-loop l =
    (positions_refusal l.s l.n (l.m - l.counter) l.least l.at ≡ positions_refusal l.s l.n l.m 0 l.first)
    × (after_positions l.s (l.m - l.counter) l.at ≡ after_positions l.s l.m l.first)
