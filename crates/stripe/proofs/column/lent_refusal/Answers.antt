-- `lent_refusal` meets its contract; no product is formed before the shape is known to be allowed.
use Rattle.std.proofs.Common.{sym, ◌∙◌, arith}
use Rattle.stripe.proofs.Refused.{handed_on, refused_some}
use Rattle.stripe.proofs.Allowed.{allowed}
use Rattle.stripe.proofs.Lent.{lent_shape, lent_data, lent_parity, lent_both}
use Rattle.stripe.proofs.column.lent_refusal.Goals as goal
use Rattle.stripe.proofs.column.lent_refusal.Goals.{then-d-s-via-then-d-s, then-d-s-via-else-d-s+then-p-s}

pub returns-in_err-refusal : goal.returns-in_err-refusal
returns-in_err-refusal c =
    let e = c.in_err-refusal in
    let h = refused_some e.field-0.0 in
    handed_on _ e.field-0.0 c.from_residual.ensures.1
    ∙ (e.ensures ∙ sym (lent_shape _ _ _ (λ w. absurd (omega (arith, e.ensures)))))

pub overflow_mul-s : goal.overflow_mul-s
overflow_mul-s c = omega (arith, (allowed c.args.s (sym c.in_ok-refusal.ensures)).data-length)

pub overflow_mul-s-else-d-s : goal.overflow_mul-s-else-d-s
overflow_mul-s-else-d-s c = omega (arith, (allowed c.args.s (sym c.in_ok-refusal.ensures)).parity-length)

pub returns-then-d-s : goal.returns-then-d-s
returns-then-d-s c =
    let e = sym c.in_ok-refusal.ensures in
    elim c.then-d-s.branch [
      | then-d-s-via-then-d-s w ↦ sym (lent_data _ _ _ e w.if-d-s.true)
      | then-d-s-via-else-d-s+then-p-s w ↦ sym (lent_parity _ _ _ e w.if-d-s.false w.if-p-s.true)
    ]

pub returns : goal.returns
returns c = sym (lent_both _ _ _ (sym c.in_ok-refusal.ensures) c.if-d-s.false c.if-p-s.false)
