-- `spans_answer` meets its contract: each test decides one part of the definition.
use mathlib.Core.Path.{sym, ap, ◌∙◌}
use native.Mathlib.Omega.{arith}
use Rattle.stripe.specs.declared.Shape.{Shape}
use Rattle.stripe.proofs.Refused.{refused_some}
use Rattle.plan.specs.Plan.{fold_refusal, columns_read}
use Rattle.shelf.proofs.Answered.{handed_answer, by_refusal, by_room, by_nothing}
use Rattle.shelf.proofs.spans_answer.Goals as goal

pub returns-in_err-fold_refusal : goal.returns-in_err-fold_refusal
returns-in_err-fold_refusal c =
    let a = c.args in
    let e = c.in_err-fold_refusal in
    let some = refused_some e.field-0.0 in
    handed_answer _ e.field-0.0 c.from_residual.ensures.1
    ∙ by_refusal _ _ _ _ _ (e.ensures ∙ ap (λ (s : Shape). fold_refusal s a.stripes a.f) c.shape_of-s.ensures) (λ z. omega (arith, some, z))

pub returns-then-room-spans : goal.returns-then-room-spans
returns-then-room-spans c =
    let a = c.args in
    let same = c.shape_of-s.ensures in
    let passed = sym (c.in_ok-fold_refusal.ensures ∙ ap (λ (s : Shape). fold_refusal s a.stripes a.f) same) in
    let many = c.number-spans.ensures ∙ c.columns_read.ensures in
    by_room _ _ _ _ _ passed (many ∙ ap (λ (s : Shape). columns_read s a.stripes a.f) same) c.if-room-spans.true

pub returns : goal.returns
returns c =
    let a = c.args in
    let same = c.shape_of-s.ensures in
    let passed = sym (c.in_ok-fold_refusal.ensures ∙ ap (λ (s : Shape). fold_refusal s a.stripes a.f) same) in
    let many = c.number-spans.ensures ∙ c.columns_read.ensures in
    by_nothing _ _ _ _ _ passed (many ∙ ap (λ (s : Shape). columns_read s a.stripes a.f) same) c.if-room-spans.false
