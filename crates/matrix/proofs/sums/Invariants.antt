-- `sums` meets its contract: the sums of the first j columns are there.
use Prim.Native.Nat.{◌^◌}
use mathlib.Core.Path.{◌≡◌}
use Rattle.matrix.specs.Sums.{Summed}
use Rattle.matrix.proofs.sums.Given as goal

abbrev pub invariant-loop-j : goal.invariant-loop-j
invariant-loop-j l = (l.have ≡ 2 ^ l.j) × Summed l.columns l.cs l.from l.stride l.w l.i l.g l.j l.initial.t l.t
