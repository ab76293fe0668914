-- `shape_of` meets its contract: a shape is told by its four numbers.
use Rattle.stripe.proofs.Unique.{same_shape}
use Rattle.shelf.proofs.shape_of.Goals as goal

pub returns : goal.returns
returns c = let e = c.new.ensures in same_shape _ _ e.0 e.1.0 e.1.1.0 e.1.1.1
