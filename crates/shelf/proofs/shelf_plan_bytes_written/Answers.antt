-- `shelf_plan_bytes_written` meets its contract: the shape is that of the four numbers, and the bill has this count.
use mathlib.Core.Path.{ap, ◌∙◌}
use Rattle.stripe.specs.declared.Shape.{Shape}
use Rattle.plan.specs.declared.counts.Bill.{Bill}
use Rattle.plan.specs.Plan.{bytes_written}
use Rattle.plan.specs.Counts.{bill_of}
use Rattle.shelf.proofs.shelf_plan_bytes_written.Goals as goal

pub returns : goal.returns
unfolding bill_of
returns c =
    let a = c.args in
    let same = c.shape_of-s.ensures in
    ap (λ (b : Bill). b.bytes.written.0) c.bill_of.ensures ∙ ap (λ (s : Shape). bytes_written s a.stripes a.f) same
