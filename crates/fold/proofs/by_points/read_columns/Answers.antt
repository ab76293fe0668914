-- `read_columns` meets its contract: the fewer of the two.
use mathlib.Core.Path.{◌∙◌}
use Rattle.fold.proofs.ByPoints.{read_least}
use Rattle.fold.proofs.by_points.read_columns.Goals as goal

pub returns : goal.returns
returns c = c.min.ensures ∙ read_least _
