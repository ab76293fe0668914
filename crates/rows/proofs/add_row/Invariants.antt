-- `add_row` meets its contract: at the places below b the row is added.
use Prim.Native.Nat.{◌*◌}
use Rattle.rows.specs.Rows.{Added}
use Rattle.rows.proofs.add_row.Given as goal

abbrev pub invariant-loop-c : goal.invariant-loop-c
invariant-loop-c l = Added l.data l.k l.l l.j l.from 0 (l.c * 64) l.initial.run l.run
