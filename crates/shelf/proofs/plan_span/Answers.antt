-- `plan_span` meets its contract: the shape is that of the four numbers.
use mathlib.Core.Path.{ap, ◌∙◌}
use Rattle.stripe.specs.declared.Shape.{Shape}
use Rattle.plan.specs.Plan.{span_at}
use Rattle.shelf.proofs.plan_span.Goals as goal

pub returns : goal.returns
returns c =
    let a = c.args in
    c.span_at.ensures ∙ ap (λ (s : Shape). span_at s a.stripes a.f a.i) c.shape_of-s.ensures
