-- `add_below` meets its contract: at the places below b the rows are as they are to be, and whole blocks are left.
use Prim.Native.Nat.{◌+◌, ◌*◌, ◌%◌}
use Rattle.syndromes.specs.Apart.{RowsTo}
use Rattle.syndromes.proofs.apart.add_below.Given as goal

abbrev pub invariant-loop-b : goal.invariant-loop-b
invariant-loop-b l = RowsTo l.stripe l.s.k l.s.l l.s.r l.x (l.s.l % 64 + l.b * 64) (l.s.l % 64 + l.b * 64) l.out
