-- `first_wrong` meets its contract: a refusal, or nowhere, or where the first difference is.
use mathlib.Core.Path.{sym, ap, ◌∙◌}
use native.Mathlib.Omega.{arith}
use Rattle.stripe.proofs.Refused.{refused_some}
use Rattle.stripe.proofs.Lent.{lent}
use Rattle.checking.specs.Check.{where_is, Refused}
use Rattle.checking.proofs.Where.{reported_refused, wrong_refused, wrong_nowhere, not_refused}
use Rattle.checking.proofs.first_wrong.Goals as goal

pub returns-in_err-lent_refusal : goal.returns-in_err-lent_refusal
returns-in_err-lent_refusal c =
    let e = c.in_err-lent_refusal in
    let h = refused_some e.field-0.0 in
    reported_refused _ e.field-0.0 c.from_residual.ensures.1
    ∙ (ap Refused e.ensures ∙ sym (wrong_refused _ _ _ (λ w. absurd (omega (arith, e.ensures)))))

pub returns-then-agrees : goal.returns-then-agrees
returns-then-agrees c = sym (wrong_nowhere _ _ _ (sym c.in_ok-lent_refusal.ensures) (sym c.if-agrees.ensures))

pub where_is-requires : goal.where_is-requires
where_is-requires c = (lent _ _ _ (sym c.in_ok-lent_refusal.ensures)).shape

pub returns : goal.returns
returns c =
    let s = c.args.s in
    c.where_is.ensures ∙ ap (where_is s) c.first.ensures ∙ sym (not_refused s _ _ (sym c.in_ok-lent_refusal.ensures))
