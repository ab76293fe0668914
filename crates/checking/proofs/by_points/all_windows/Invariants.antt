-- `all_windows` meets its contract: what is kept is found at the places of each column that the windows so far hold.
use Prim.Native.Nat.{◌*◌, min}
use Rattle.stripe.specs.Stripe.{parity}
use Rattle.checking.specs.Windows.{Below}
use Rattle.checking.proofs.by_points.all_windows.Given as goal

abbrev pub invariant-loop-i : goal.invariant-loop-i
invariant-loop-i l =
    let s = l.lent.shape in
    Below s.l (s.r * s.l) (min (l.i * l.most) s.l) l.lent.parity.now (parity s l.lent.«data».now) l.b
