-- `first` meets its contract: with r above 3 by points, else by rows.
use Rattle.stripe.proofs.Allowed.{allowed, few_by_rows, many_by_points}
use Rattle.stripe.proofs.Lent.{lent}
use Rattle.checking.proofs.first.Goals as goal

pub first_by_points-requires : goal.first_by_points-requires
first_by_points-requires c =
    let a = c.args.lent.now in
    many_by_points a.shape c.if-lent-gt-MOST_ROWS.true (allowed a.shape (lent a.shape _ _ a.allowed).shape).parity_most

pub first_by_rows-requires : goal.first_by_rows-requires
first_by_rows-requires c = few_by_rows c.args.lent.now.shape c.if-lent-gt-MOST_ROWS.false
