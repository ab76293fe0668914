-- `all_rows` meets its contract: what is kept is found in the first i rows.
use Prim.Native.Nat.{ℕ, ◌+◌, ◌*◌}
use mathlib.Core.List.{List}
use Rattle.checking.specs.Windows.{Kept, Below, Window}
use Rattle.checking.proofs.by_points.all_rows.Given as goal

abbrev pub invariant-loop-i : goal.invariant-loop-i
invariant-loop-i l =
    (ys : List ℕ) → Window l.r l.l l.p l.n l.made ys → Below l.l (l.r * l.l) l.p l.lent ys l.b
    → Kept l.l (l.r * l.l) l.i (l.p + l.n) l.p l.lent ys l.c
