-- `odd` meets its contract: of the first i numbers those whose byte is odd are listed.
use Prim.Native.Nat.{ℕ, ◌%◌, ◌<◌}
use mathlib.Core.Path.{◌≡◌}
use lib.ListN.{get_or}
use Rattle.matrix.specs.Listing.{Listed}
use Rattle.matrix.proofs.one.odd.Given as goal

abbrev pub invariant-loop-i : goal.invariant-loop-i
invariant-loop-i l =
    Listed (λ k. get_or l.p k 0 % 2) l.cs l.i l.at l.n l.ls
    × ((k : ℕ) → k < l.at → get_or l.ls k 0 ≡ get_or l.initial.ls k 0)
