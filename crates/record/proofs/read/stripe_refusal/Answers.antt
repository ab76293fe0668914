-- `stripe_refusal` meets its contract; an allowed shape keeps the product small.
use mathlib.Core.Path.{sym, ◌∙◌}
use native.Mathlib.Omega.{arith}
use Rattle.stripe.proofs.Allowed.{allowed}
use Rattle.stripe.proofs.Refused.{handed_on, refused_some}
use Rattle.record.proofs.Refusals.{stripe_shape, stripe_long, stripe_lawful}
use Rattle.record.proofs.read.stripe_refusal.Goals as goal

pub returns-in_err-refusal : goal.returns-in_err-refusal
returns-in_err-refusal c =
    let e = c.in_err-refusal.field-0.0 in
    let h = refused_some e in
    handed_on _ e c.from_residual.ensures.1 ∙ stripe_shape c.args.s _ c.in_err-refusal.ensures (λ z. omega arith)

pub overflow_add-s : goal.overflow_add-s
overflow_add-s c = omega (arith, (allowed c.args.s (sym c.in_ok-refusal.ensures)).columns_most)

pub overflow_mul-s : goal.overflow_mul-s
overflow_mul-s c = omega (arith, (allowed c.args.s (sym c.in_ok-refusal.ensures)).stripe-length)

pub returns-then-s-gt65536 : goal.returns-then-s-gt65536
returns-then-s-gt65536 c = stripe_long c.args.s (sym c.in_ok-refusal.ensures) c.if-s-gt65536.true

pub returns : goal.returns
returns c = stripe_lawful c.args.s (sym c.in_ok-refusal.ensures) c.if-s-gt65536.false
