-- `Gf::sum` meets its contract: the sum is the exclusive or.
use borrow.Author.Rules.{rules}
use Rattle.field.specs.Field.{◌⊕◌}
use Rattle.field.proofs.Gf.sum.Goals as goal

pub returns : goal.returns
unfolding ◌⊕◌
returns c = search rules
