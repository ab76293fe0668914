-- `weight_apart` meets its contract.
use Rattle.field.specs.Field.{◌⊕◌}
use Rattle.mending.proofs.solve.weight_apart.Goals as goal

pub returns : goal.returns
unfolding ◌⊕◌
returns c = λ l. c.product.ensures
