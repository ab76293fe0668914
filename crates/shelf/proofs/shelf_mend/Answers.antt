-- `shelf_mend` meets its contract: the shape is that of the four numbers.
use mathlib.Core.Path.{subst}
use Rattle.stripe.specs.declared.Shape.{Shape}
use Rattle.stripe.specs.Refusal.{refusal_of}
use Rattle.mending.specs.Mend.{Mended}
use Rattle.shelf.proofs.shelf_mend.Goals as goal

pub returns : goal.returns
returns c =
    let a = c.args in
    rw c.number.ensures
    (subst (λ (s : Shape). Mended s a.lost.now a.stripe.now (refusal_of c.mend.result) c.mend.new.stripe)
    c.shape_of-shape.ensures c.mend.ensures)
