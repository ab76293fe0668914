-- `mend_refusal` meets its contract.
use mathlib.Core.Path.{sym, ◌∙◌}
use native.Mathlib.Omega.{arith}
use Rattle.stripe.proofs.Allowed.{allowed}
use Rattle.stripe.proofs.Refused.{handed_on, refused_some}
use Rattle.mending.proofs.Passed.{mend_shape, mend_long, mend_list}
use Rattle.mending.proofs.mend_refusal.Goals as goal

pub returns-in_err-refusal : goal.returns-in_err-refusal
returns-in_err-refusal c =
    let e = c.in_err-refusal in
    let some = refused_some e.field-0.0 in
    handed_on _ e.field-0.0 c.from_residual.ensures.1
    ∙ (e.ensures ∙ sym (mend_shape c.args.s c.args.d c.args.list.now (λ w. absurd (omega (arith, some, e.ensures, w)))))

pub overflow_add-n : goal.overflow_add-n
overflow_add-n c = let f = allowed c.args.s (sym c.in_ok-refusal.ensures) in omega (arith, f.data_most, f.parity_most)

pub overflow_mul-n : goal.overflow_mul-n
overflow_mul-n c = let f = allowed c.args.s (sym c.in_ok-refusal.ensures) in omega (arith, f.stripe-length)

pub returns-then-d-n : goal.returns-then-d-n
returns-then-d-n c =
    sym (mend_long c.args.s c.args.d c.args.list.now (sym c.in_ok-refusal.ensures)
    c.if-d-n.true)

pub returns : goal.returns
returns c =
    c.list_refusal.ensures
    ∙ sym (mend_list c.args.s c.args.d c.args.list.now
    (sym c.in_ok-refusal.ensures) c.if-d-n.false)
