-- `tables` meets its contract: the sums of the first g groups are there.
use Prim.Native.Nat.{◌<◌}
use Rattle.matrix.specs.Sums.{GroupsIn, ZeroFirst}
use Rattle.matrix.proofs.tables.Given as goal

abbrev pub invariant-loop-g : goal.invariant-loop-g
invariant-loop-g l =
    GroupsIn l.columns l.cs l.from l.stride l.w l.i l.n l.g l.t × (0 < l.g → ZeroFirst l.t)
