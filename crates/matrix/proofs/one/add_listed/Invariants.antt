-- `add_listed` meets its contract: the first j columns of the list are in.
use Rattle.matrix.proofs.Listing.{Added}
use Rattle.matrix.proofs.one.add_listed.Given as goal

abbrev pub invariant-loop-j : goal.invariant-loop-j
invariant-loop-j l = Added l.columns l.ls l.from l.stride l.at l.w l.j l.initial.y l.y
