-- `shelf_plan_columns_written` meets its contract: the shape is that of the four numbers, and the bill has this count.
use mathlib.Core.Path.{ap, ◌∙◌}
use Rattle.stripe.specs.declared.Shape.{Shape}
use Rattle.plan.specs.declared.counts.Bill.{Bill}
use Rattle.plan.specs.Plan.{columns_written}
use Rattle.plan.specs.Counts.{bill_of}
use Rattle.shelf.proofs.shelf_plan_columns_written.Goals as goal

pub returns : goal.returns
unfolding bill_of
returns c =
    let a = c.args in
    let same = c.shape_of-s.ensures in
    ap (λ (b : Bill). b.columns.written.0) c.bill_of.ensures ∙ ap (λ (s : Shape). columns_written s a.stripes a.f) same
