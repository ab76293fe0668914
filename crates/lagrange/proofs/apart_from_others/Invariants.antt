-- `apart_from_others` meets its contract: lane q is what point q is apart from the points less than s places on.
use mathlib.Core.Path.{◌≡◌}
use lib.ListN.{length}
use Rattle.lagrange.proofs.Lanes.{Apart}
use Rattle.lagrange.proofs.apart_from_others.Given as goal

abbrev pub invariant-loop-s : goal.invariant-loop-s
invariant-loop-s l = (length l.p ≡ 16) × Apart l.bs l.s l.p
