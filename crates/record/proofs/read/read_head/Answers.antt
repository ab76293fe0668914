-- `read_head` meets its contract: each number stands after the one before, so the first refusal is that of the front.
use Prim.Native.Nat.{ℕ}
use mathlib.Core.Path.{sym, ap, ap₂, ◌∙◌}
use native.Mathlib.Omega.{arith}
use Rattle.stripe.specs.declared.refusal.Refusal.TheVariants as refusal
use Rattle.stripe.specs.declared.Shape.{Shape}
use Rattle.stripe.proofs.Refused.{handed_on, refused_some}
use Rattle.number.specs.Number.{number_at, number_refusal, value_of, next_of}
use Rattle.number.proofs.Reported.{flaw_refused}
use Rattle.record.specs.Reading.{stripe_refusal}
use Rattle.record.proofs.Refusals.{head_first, head_second, head_third, head_fourth, head_stripe, head_lawful, shape_is}
use Rattle.record.proofs.read.read_head.Goals as goal

pub returns-in_err-k-clause-refusal : goal.returns-in_err-k-clause-refusal
returns-in_err-k-clause-refusal c =
    let e = c.in_err-k in
    handed_on _ refusal.Cut c.from_residual.ensures.1 ∙ head_first c.args.s.now 9 (flaw_refused e.field-0.0 _ e.ensures) (λ z. omega arith)

pub returns-in_err-r-clause-refusal : goal.returns-in_err-r-clause-refusal
returns-in_err-r-clause-refusal c =
    let s = c.args.s.now in
    let e = c.in_err-r in
    let k = c.in_ok-k.ensures in
    let r = e.ensures ∙ ap (number_at s) (ap next_of k) in
    handed_on _ refusal.Cut c.from_residual-in_err-r.ensures.1
    ∙ head_second s (sym (ap number_refusal k)) 9 (flaw_refused e.field-0.0 _ r) (λ z. omega arith)

pub returns-in_err-t-clause-refusal : goal.returns-in_err-t-clause-refusal
returns-in_err-t-clause-refusal c =
    let s = c.args.s.now in
    let e = c.in_err-t in
    let k = c.in_ok-k.ensures in
    let r = c.in_ok-r.ensures ∙ ap (number_at s) (ap next_of k) in
    let t = e.ensures ∙ ap (number_at s) (ap next_of r) in
    handed_on _ refusal.Cut c.from_residual-in_err-t.ensures.1
    ∙ head_third s (sym (ap number_refusal k)) (sym (ap number_refusal r)) 9 (flaw_refused e.field-0.0 _ t) (λ z. omega arith)

pub returns-in_err-l-clause-refusal : goal.returns-in_err-l-clause-refusal
returns-in_err-l-clause-refusal c =
    let s = c.args.s.now in
    let e = c.in_err-l in
    let k = c.in_ok-k.ensures in
    let r = c.in_ok-r.ensures ∙ ap (number_at s) (ap next_of k) in
    let t = c.in_ok-t.ensures ∙ ap (number_at s) (ap next_of r) in
    let l = e.ensures ∙ ap (number_at s) (ap next_of t) in
    handed_on _ refusal.Cut c.from_residual-in_err-l.ensures.1
    ∙ head_fourth s (sym (ap number_refusal k)) (sym (ap number_refusal r)) (sym (ap number_refusal t)) 9 (flaw_refused e.field-0.0 _ l) (λ z. omega arith)

pub returns-in_err-stripe_refusal-clause-refusal : goal.returns-in_err-stripe_refusal-clause-refusal
returns-in_err-stripe_refusal-clause-refusal c =
    let s = c.args.s.now in
    let e = c.in_err-stripe_refusal in
    let some = refused_some e.field-0.0 in
    let k = c.in_ok-k.ensures in
    let r = c.in_ok-r.ensures ∙ ap (number_at s) (ap next_of k) in
    let t = c.in_ok-t.ensures ∙ ap (number_at s) (ap next_of r) in
    let l = c.in_ok-l.ensures ∙ ap (number_at s) (ap next_of t) in
    let n = c.new-shape in
    let v = shape_is n.result _ _ _ _ (n.ensures.0 ∙ ap value_of k) (n.ensures.1.0 ∙ ap value_of r)
    (n.ensures.1.1.0 ∙ ap value_of t) (n.ensures.1.1.1 ∙ ap value_of l) in
    handed_on _ e.field-0.0 c.from_residual-in_err-stripe_refusal.ensures.1
    ∙ head_stripe s (sym (ap number_refusal k)) (sym (ap number_refusal r)) (sym (ap number_refusal t)) (sym (ap number_refusal l)) _
    (e.ensures ∙ ap stripe_refusal v) (λ z. omega arith)

pub returns : goal.returns
returns c =
    let s = c.args.s.now in
    let k = c.in_ok-k.ensures in
    let r = c.in_ok-r.ensures ∙ ap (number_at s) (ap next_of k) in
    let t = c.in_ok-t.ensures ∙ ap (number_at s) (ap next_of r) in
    let l = c.in_ok-l.ensures ∙ ap (number_at s) (ap next_of t) in
    let n = c.new-shape in
    let v = shape_is n.result _ _ _ _ (n.ensures.0 ∙ ap value_of k) (n.ensures.1.0 ∙ ap value_of r)
    (n.ensures.1.1.0 ∙ ap value_of t) (n.ensures.1.1.1 ∙ ap value_of l) in
    record {
      refusal = head_lawful s (sym (ap number_refusal k)) (sym (ap number_refusal r)) (sym (ap number_refusal t)) (sym (ap number_refusal l))
          (sym (c.in_ok-stripe_refusal.ensures ∙ ap stripe_refusal v));
      ok = ap₂ (λ (w : Shape) (i : ℕ). record { shape = w; next = i }) v (ap next_of l);
    }
