-- `row_numbers` meets its contract: the numbers of the first g groups are there.
use Prim.Native.Nat.{ℕ, ◌+◌, ◌<◌}
use mathlib.Core.Path.{◌≡◌}
use lib.ListN.{get_or}
use Rattle.matrix.specs.Sums.{RowNumbered}
use Rattle.matrix.proofs.row_numbers.Given as goal

abbrev pub invariant-loop-g : goal.invariant-loop-g
invariant-loop-g l =
    RowNumbered (λ j. get_or l.matrix (l.from + j) 0) l.row l.n l.g l.es
    × ((i : ℕ) → i < l.row → get_or l.es i 0 ≡ get_or l.initial.es i 0)
