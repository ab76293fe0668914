-- `fill_parity` meets its contract: the rows of a stripe fit the room that is made for them.
use mathlib.Core.Path.{sym, subst}
use Prim.Native.Nat.{ℕ, ◌*◌, ◌<◌, ◌^◌}
use native.Mathlib.Omega.{arith}
use borrow.Author.Rules.{rules}
use Rattle.plan.proofs.Bounds.{fits}
use Rattle.fold.proofs.Rowed.{rows_fit_lem}
use Rattle.fold.proofs.stripes.fill_parity.Goals as goal

pub overflow_mul-size : goal.overflow_mul-size
overflow_mul-size c =
    fits _ (subst (λ (x : ℕ). c.args.f * x < 2 ^ 64) (sym c.part_bytes.ensures) (omega (arith, rows_fit_lem _ _ c.requires.0)))

pub take_in-requires-else-size-le1536 : goal.take_in-requires-else-size-le1536
take_in-requires-else-size-le1536 c = record { room = (rows_fit_lem _ _ c.requires.0, search rules); lent = c.requires }
