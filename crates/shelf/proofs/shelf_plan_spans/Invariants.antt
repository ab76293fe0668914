-- After i turns the first i spans of the plan stand at the front of the list.
use mathlib.Core.Path.{◌≡◌}
use Rattle.plan.specs.Plan.{plan}
use Rattle.shelf.specs.Shelf.{shape_of}
use Rattle.shelf.proofs.Stored.{front}
use Rattle.shelf.proofs.shelf_plan_spans.Given as goal

abbrev pub invariant-loop-i : goal.invariant-loop-i
invariant-loop-i l = l.spans ≡ front (plan (shape_of l.k l.r l.t l.l) l.stripes l.f) l.i l.initial.spans
