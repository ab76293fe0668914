-- `Shape::refusal` meets its contract: each test decides one part of the definition.
use Rattle.std.proofs.Common.{sym, ◌∙◌}
use Rattle.stripe.specs.Shape.{shape_refusal}
use Rattle.stripe.proofs.Shape.refusal.Goals as goal

pub returns-then-not-numbers_allowed : goal.returns-then-not-numbers_allowed
unfolding shape_refusal
returns-then-not-numbers_allowed c = simp (sym c.numbers_allowed.ensures ∙ c.if-not-numbers_allowed.true)

pub returns-then-not-length_allowed : goal.returns-then-not-length_allowed
unfolding shape_refusal
returns-then-not-length_allowed c =
    simp (sym c.numbers_allowed.ensures ∙ c.if-not-numbers_allowed.false, sym c.length_allowed.ensures ∙ c.if-not-length_allowed.true)

pub returns : goal.returns
unfolding shape_refusal
returns c =
    simp (sym c.numbers_allowed.ensures ∙ c.if-not-numbers_allowed.false, sym c.length_allowed.ensures ∙ c.if-not-length_allowed.false)
