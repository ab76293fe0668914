-- `encode` meets its contract: a refusal leaves the parity as it was.
use mathlib.Core.Path.{sym, ◌∙◌}
use native.Mathlib.Omega.{arith}
use Rattle.stripe.proofs.Refused.{handed_on, refused_some}
use Rattle.coding.proofs.Encoded.{encoded_refused, encoded_done}
use Rattle.coding.proofs.encode.encode.Goals as goal

pub returns-in_err-lent_refusal : goal.returns-in_err-lent_refusal
returns-in_err-lent_refusal c =
    let a = c.args in
    let e = c.in_err-lent_refusal in
    let h = refused_some e.field-0.0 in
    record {
      value = handed_on _ e.field-0.0 c.from_residual.ensures.1 ∙ e.ensures;
      parity_after = encoded_refused a.s a.«data».now a.parity.now (λ z. absurd (omega (arith, e.ensures)));
    }

pub returns : goal.returns
returns c = let a = c.args in
    let e = c.in_ok-lent_refusal.ensures in
    record { value = e; parity_after = c.fill_parity.ensures ∙ encoded_done a.s a.«data».now a.parity.now (sym e) }
