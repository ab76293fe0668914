-- `restore_longer` meets its contract: r rows fit one of the scratches.
use mathlib.Core.Path.{sym, subst}
use Prim.Native.Nat.{ℕ, ◌≤◌}
use native.Mathlib.Nat.{le_refl}
use Rattle.stripe.specs.Shape.{most_rows_length}
use Rattle.mending.proofs.Smaller.{rows_fit_lem}
use Rattle.mending.proofs.restore_longer.Goals as goal

pub restore_in-requires-2 : goal.restore_in-requires-2
restore_in-requires-2 c =
    let w = c.requires in
    (w.0, (w.1.0, (w.1.1, (subst (λ (m : ℕ). m ≤ most_rows_length) (sym w.1.1) (rows_fit_lem c.args.s c.args.lost w.0), le_refl _))))
