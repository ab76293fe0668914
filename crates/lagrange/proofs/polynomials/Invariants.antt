-- `polynomials` meets its contract: the first v rows and the last v are multiplied by what stands in p and in s before their turn.
use Prim.Native.Nat.{◌-◌}
use lib.ListN.{length, take, drop}
use Rattle.lagrange.proofs.Lanes.{Counts, Both}
use Rattle.lagrange.proofs.polynomials.Given as goal

abbrev pub invariant-loop-v : goal.invariant-loop-v
invariant-loop-v l =
    Counts l.p (take l.v l.bs) l.y × Counts l.s (drop (length l.bs - l.v) l.bs) l.y × Both l.bs l.of.constants.now l.y l.v l.v l.rows
