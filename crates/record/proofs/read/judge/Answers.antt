-- `judge` meets its contract: the refusal of the front, else that of the rest.
use mathlib.Core.Path.{◌∙◌}
use native.Mathlib.Omega.{arith}
use Rattle.stripe.proofs.Refused.{handed_on, refused_some}
use Rattle.record.proofs.Refusals.{content_head}
use Rattle.record.proofs.read.judge.Goals as goal

pub returns-in_err-head-clause-refusal : goal.returns-in_err-head-clause-refusal
returns-in_err-head-clause-refusal c =
    let e = c.in_err-head in
    let h = refused_some e.field-0.0 in
    handed_on _ e.field-0.0 c.from_residual.ensures.1 ∙ content_head c.args.s.now _ e.ensures.refusal (λ z. omega arith)
