-- `shelf_plan_refusal` meets its contract: the shape is that of the four numbers.
use mathlib.Core.Path.{ap, ◌∙◌}
use Rattle.stripe.specs.declared.Shape.{Shape}
use Rattle.plan.specs.Plan.{fold_refusal}
use Rattle.shelf.proofs.shelf_plan_refusal.Goals as goal

pub returns : goal.returns
returns c =
    let a = c.args in
    let same = c.shape_of-s.ensures in
    c.number.ensures ∙ c.fold_refusal.ensures ∙ ap (λ (s : Shape). fold_refusal s a.stripes a.f) same
