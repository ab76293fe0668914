-- `fill_parity` meets its contract: with r above 3 by points, else by rows.
use Rattle.stripe.proofs.Allowed.{allowed, few_by_rows, many_by_points}
use Rattle.stripe.proofs.Lent.{lent}
use Rattle.coding.proofs.encode.fill_parity.Goals as goal

pub fill_by_points-requires : goal.fill_by_points-requires
fill_by_points-requires c =
    (c.requires, many_by_points c.args.s c.if-s-gt-MOST_ROWS.true (allowed c.args.s (lent c.args.s _ _ c.requires).shape).parity_most)

pub fill_by_rows-requires : goal.fill_by_rows-requires
fill_by_rows-requires c = (c.requires, few_by_rows c.args.s c.if-s-gt-MOST_ROWS.false)
