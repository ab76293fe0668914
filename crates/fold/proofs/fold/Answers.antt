-- `fold` meets its contract: the verdict comes first, and what is not refused is filled.
use Rattle.std.proofs.Common.{sym, ◌∙◌, arith}
use Rattle.stripe.proofs.Refused.{handed_on, refused_some}
use Rattle.fold.proofs.Verdict.{verdict_passed, filled, unfilled}
use Rattle.fold.proofs.fold.Goals as goal

pub returns-in_err-fold_verdict : goal.returns-in_err-fold_verdict
returns-in_err-fold_verdict c =
    let e = c.in_err-fold_verdict in
    let some = refused_some e.field-0.0 in
    (handed_on _ e.field-0.0 c.from_residual.ensures.1 ∙ e.ensures, unfilled _ _ _ _ _ (λ z. omega (arith, z, e.ensures)))

pub fill-requires : goal.fill-requires
fill-requires c = verdict_passed _ _ _ _ _ (sym c.in_ok-fold_verdict.ensures)

pub returns : goal.returns
returns c = (c.in_ok-fold_verdict.ensures, c.fill.ensures ∙ filled _ _ _ _ _ (sym c.in_ok-fold_verdict.ensures))
