-- `put_columns` meets its contract: the first v columns hold their rows.
use Prim.Native.Nat.{◌+◌, ◌-◌, ◌*◌}
use lib.ListN.{get_or}
use Rattle.repair.specs.Windows.{Put}
use Rattle.repair.proofs.write.put_columns.Given as goal

abbrev pub invariant-loop-v : goal.invariant-loop-v
invariant-loop-v l =
    Put (λ u p. get_or l.rows (u * l.n + (p - l.at)) 0) l.columns l.v l.l l.at (l.at + l.n) l.initial.stripe l.stripe
