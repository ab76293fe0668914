-- `wide_shape` meets its contract: a refused fold has no wide shape, and any other the one by definition.
use mathlib.Core.Path.{sym, ◌∙◌}
use native.Mathlib.Omega.{arith}
use Rattle.stripe.specs.Shape.{no_shape}
use Rattle.stripe.proofs.Unique.{same_shape}
use Rattle.stripe.proofs.Refused.{is_refused, is_accepted}
use Rattle.plan.specs.Plan.{wide_shape}
use Rattle.plan.proofs.Foldable.{foldable}
use Rattle.plan.proofs.Bounds.{fits}
use Rattle.plan.proofs.Refusals.{no_shape_lem, a_shape}
use Rattle.plan.proofs.wide_shape.Goals as goal

pub returns-then-is_err : goal.returns-then-is_err
returns-then-is_err c =
    let e = c.new.ensures in
    same_shape _ no_shape e.0 e.1.0 e.1.1.0 e.1.1.1
    ∙ sym (no_shape_lem _ _ _ (λ z. is_refused _ c.if-is_err.ensures.value (c.fold_refusal.ensures ∙ z)))

pub overflow_mul-stripes : goal.overflow_mul-stripes
overflow_mul-stripes c =
    let h = (foldable _ _ _ (sym c.fold_refusal.ensures ∙ is_accepted _ c.if-is_err.ensures.value)).wide_most in fits _ (omega (arith, h))

pub returns : goal.returns
returns c =
    let e = c.new-2.ensures in
    same_shape _ (wide_shape c.args.s c.args.stripes c.args.f)
    e.0 e.1.0 e.1.1.0 e.1.1.1
    ∙ sym (a_shape _ _ _ (sym c.fold_refusal.ensures ∙ is_accepted _ c.if-is_err.ensures.value))
