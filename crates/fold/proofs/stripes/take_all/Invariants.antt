-- `take_all` meets its contract: after the stripes from l on, the parity is their sum.
use mathlib.Core.Path.{◌≡◌}
use Prim.Native.Nat.{◌*◌, ◌<◌}
use lib.ListN.{length}
use Rattle.fold.specs.Fold.{part_bytes}
use Rattle.fold.proofs.Summing.{from}
use Rattle.fold.proofs.stripes.take_all.Given as goal

abbrev pub invariant-loop-l : goal.invariant-loop-l
invariant-loop-l l =
    (length l.rows ≡ l.f * part_bytes l.s) × ((length l.parity ≡ l.f * l.s.l) × (l.l < l.n → l.parity ≡ from l.s l.f l.each l.n l.d l.l))
