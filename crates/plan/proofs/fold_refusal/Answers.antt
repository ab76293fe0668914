-- `fold_refusal` meets its contract: each verdict decides one part of the definition.
use Rattle.std.proofs.Common.{sym, ◌∙◌, arith}
use Rattle.stripe.proofs.Allowed.{allowed}
use Rattle.stripe.proofs.Refused.{handed_on, refused_some}
use Rattle.plan.proofs.Refusals.{by_shape, by_stripes, by_new, by_none}
use Rattle.plan.proofs.fold_refusal.Goals as goal

pub returns-in_err-refusal : goal.returns-in_err-refusal
returns-in_err-refusal c =
    let e = c.in_err-refusal in
    let h = refused_some e.field-0.0 in
    handed_on _ e.field-0.0 c.from_residual.ensures.1 ∙ (e.ensures ∙ by_shape _ _ _ (λ w. omega (arith, e.ensures)))

pub stripes_allowed-requires : goal.stripes_allowed-requires
stripes_allowed-requires c = let a = allowed _ (sym c.in_ok-refusal.ensures) in (a.data_most, a.parity_most)

pub returns-then-not-stripes_allowed : goal.returns-then-not-stripes_allowed
returns-then-not-stripes_allowed c =
    by_stripes _ _ _ (sym c.in_ok-refusal.ensures) (sym c.stripes_allowed.ensures ∙ c.if-not-stripes_allowed.true)

pub returns-then-not-new_allowed : goal.returns-then-not-new_allowed
returns-then-not-new_allowed c =
    by_new _ _ _ (sym c.in_ok-refusal.ensures) (sym c.stripes_allowed.ensures ∙ c.if-not-stripes_allowed.false)
    (sym c.new_allowed.ensures ∙ c.if-not-new_allowed.true)

pub returns : goal.returns
returns c =
    by_none _ _ _ (sym c.in_ok-refusal.ensures) (sym c.stripes_allowed.ensures ∙ c.if-not-stripes_allowed.false)
    (sym c.new_allowed.ensures ∙ c.if-not-new_allowed.false)
