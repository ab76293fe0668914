-- `in_group` meets its contract: the lesser of four and what is left.
use mathlib.Core.Path.{◌∙◌}
use Rattle.matrix.proofs.Groups.{group_is}
use Rattle.matrix.proofs.in_group.Goals as goal

pub returns : goal.returns
returns c = c.min.ensures ∙ group_is c.args.n c.args.g
