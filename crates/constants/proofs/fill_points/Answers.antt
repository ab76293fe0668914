-- `fill_points` meets its contract: the first part goes up from 1, the other down from g^254.
use Rattle.constants.proofs.Points.{points_filled}
use Rattle.constants.proofs.fill_points.Goals as goal

pub returns : goal.returns
returns c =
    points_filled c.args.k c.args.out.now _ _ c.requires.0 c.ascending.ensures c.descending.ensures
