-- `restore_in` meets its contract: of a scratch of N bytes r rows are lent.
use Prim.Native.Nat.{ℕ, ◌≤◌}
use mathlib.Core.Path.{◌≡◌, sym, ◌∙◌}
use native.Mathlib.Omega.{arith}
use lib.ListN.{length, take, replicate, length-replicate}
use lib.Seq.{length-take-le}
use Rattle.mending.proofs.restore_in.Goals as goal

-- the front of n zeros
front : (m n : ℕ) → n ≤ m → length (take n (replicate {A = ℕ} m 0)) ≡ n
front m n h = length-take-le n (replicate m 0) (omega (arith, length-replicate {A = ℕ} m 0))

pub slice_bounds-restore_rows-end : goal.slice_bounds-restore_rows-end
slice_bounds-restore_rows-end g c = sym (front g.row.N _ c.requires.1.1.1.0)

pub whole_as_front-restore_rows : goal.whole_as_front-restore_rows
whole_as_front-restore_rows g c = omega (arith, c.requires.1.1.1.0, c.requires.1.1.1.1, length-replicate {A = ℕ} g.row.N 0)

pub restore_rows-requires : goal.restore_rows-requires
restore_rows-requires g c =
    let w = c.requires in (w.0, (w.1.0, front g.row.N _ w.1.1.1.0 ∙ w.1.1.0))
