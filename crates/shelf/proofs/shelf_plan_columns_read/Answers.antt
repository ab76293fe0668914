-- `shelf_plan_columns_read` meets its contract: the shape is that of the four numbers.
use mathlib.Core.Path.{ap, ◌∙◌}
use Rattle.stripe.specs.declared.Shape.{Shape}
use Rattle.plan.specs.Plan.{columns_read}
use Rattle.shelf.proofs.shelf_plan_columns_read.Goals as goal

pub returns : goal.returns
returns c =
    let a = c.args in
    let same = c.shape_of-s.ensures in
    c.columns_read.ensures ∙ ap (λ (s : Shape). columns_read s a.stripes a.f) same
