-- `wide3` meets its contract: from slot s on w holds the last coefficients of the quotient of the columns from number i on.
use Prim.Native.Nat.{◌*◌, ◌-◌, ◌%◌}
use mathlib.Core.Path.{◌≡◌}
use Rattle.rows.proofs.Ring.{Window}
use Rattle.rows.proofs.wide.wide3.Given as goal

abbrev pub invariant-loop-i : goal.invariant-loop-i
invariant-loop-i l = (l.s ≡ l.i % 14) × Window l.data l.l l.from (l.i * l.l) (l.k - l.i) l.s l.w
