-- `part` meets its contract.
use Prim.Native.Nat.{ℕ, ◌*◌}
use mathlib.Core.Path.{ap}
use native.Mathlib.Nat.{add-sub_cancel_left}
use lib.ListN.{take, drop}
use Rattle.stripe.proofs.column.part.Goals as goal

pub returns : goal.returns
returns c =
    ap (λ (n : ℕ). take n (drop (c.args.c * c.args.l) c.args.b.now))
    (add-sub_cancel_left (c.args.c * c.args.l) c.args.l)
