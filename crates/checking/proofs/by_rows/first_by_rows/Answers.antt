-- `first_by_rows` meets its contract: any parity by rows has room in the largest buffer.
use native.Mathlib.Omega.{arith}
use Rattle.stripe.proofs.Allowed.{allowed, rows_most}
use Rattle.stripe.proofs.Lent.{lent}
use Rattle.checking.proofs.Where.{parity_most}
use Rattle.checking.proofs.by_rows.first_by_rows.Goals as goal

pub in_room-requires-2 : goal.in_room-requires-2
in_room-requires-2 c =
    let a = c.args.lent.now in
    let most = parity_most a.shape _ _ a.allowed (rows_most a.shape (allowed a.shape (lent a.shape _ _ a.allowed).shape) c.requires) in
    (c.requires, (most, omega arith))
