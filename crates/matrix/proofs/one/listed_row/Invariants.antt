-- `listed_row` meets its contract: Horner's rule over the bits from b on.
use Prim.Native.Nat.{ℕ, ◌*◌, ◌-◌, ◌<◌}
use mathlib.Core.Path.{◌≡◌}
use lib.ListN.{get_or}
use Rattle.matrix.specs.Sums.{fall}
use Rattle.matrix.specs.Listing.{listed}
use Rattle.matrix.proofs.one.listed_row.Given as goal

abbrev pub invariant-loop-b : goal.invariant-loop-b
invariant-loop-b l =
    (q : ℕ) → q < l.w → get_or l.y q 0 ≡ fall (8 - l.b) l.b (λ d. listed l.columns l.from l.stride l.ls (d * 256) (get_or l.ns d 0) q)
