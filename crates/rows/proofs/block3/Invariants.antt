-- `block3` meets its contract: each array holds its row of the columns from number odd + 2 * m on, and the first column joins them at
-- the end where one is left.
use Prim.Native.Nat.{◌+◌, ◌*◌, ◌-◌}
use Rattle.rows.proofs.Horner.{Held3}
use Rattle.rows.proofs.block3.Given as goal

abbrev pub invariant-loop-m : goal.invariant-loop-m
invariant-loop-m l = Held3 l.data l.l l.from ((l.odd + 2 * l.m) * l.l) (l.k - (l.odd + 2 * l.m)) l.row0 l.row1 l.row2
