-- `lost_of` meets its contract: after i turns the first i positions stand in the array, and zeros after them.
use Prim.Native.Nat.{ℕ, ◌≤◌, ◌<◌}
use mathlib.Core.Path.{◌≡◌}
use lib.ListN.{length, get_or}
use Rattle.lost.specs.Positions.{positions}
use Rattle.lost.specs.Lost.{capacity}
use Rattle.lost.proofs.lost_of.Given as goal

abbrev pub invariant-loop-i : goal.invariant-loop-i
invariant-loop-i l =
    (length l.at ≡ capacity) × ((j : ℕ) → j < l.i → get_or l.at j 0 ≡ get_or (positions l.list) j 0)
    × ((j : ℕ) → l.i ≤ j → get_or l.at j 0 ≡ 0)
