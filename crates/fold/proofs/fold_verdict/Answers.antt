-- `fold_verdict` meets its contract: each test decides one part of the definition.
use mathlib.Core.Path.{sym, ap, ◌∙◌}
use Prim.Native.Nat.{ℕ}
use native.Mathlib.Omega.{arith}
use lib.Dec.{eqb}
use Rattle.stripe.proofs.Refused.{handed_on, refused_some}
use Rattle.plan.proofs.Bounds.{fits, new_product}
use Rattle.plan.proofs.Foldable.{foldable}
use Rattle.plan.proofs.Refusals.{shape_passed}
use Rattle.fold.proofs.Verdict.{by_refusal, by_read, by_filled, by_nothing}
use Rattle.fold.proofs.fold_verdict.Goals as goal

pub returns-in_err-fold_refusal : goal.returns-in_err-fold_refusal
returns-in_err-fold_refusal c =
    let e = c.in_err-fold_refusal in
    let some = refused_some e.field-0.0 in
    handed_on _ e.field-0.0 c.from_residual.ensures.1 ∙ (e.ensures ∙ by_refusal _ _ _ _ _ (λ z. omega (arith, z, e.ensures)))

pub returns-then-not-is : goal.returns-then-not-is
returns-then-not-is c =
    let a = c.args.a in
    let same = c.is.ensures ∙ ap (λ (x : ℕ). eqb a x) c.bytes_read.ensures in
    let p = sym c.in_ok-fold_refusal.ensures in
    by_read _ _ _ _ _ p (sym same ∙ c.if-not-is.true)

pub overflow_mul-f : goal.overflow_mul-f
overflow_mul-f c =
    let p = sym c.in_ok-fold_refusal.ensures in
    fits _ (omega (arith, new_product _ (shape_passed _ _ _ p) _ (foldable _ _ _ p).new_most))

pub returns-then-b-f : goal.returns-then-b-f
returns-then-b-f c =
    let a = c.args.a in
    let p = sym c.in_ok-fold_refusal.ensures in
    let same = c.is.ensures ∙ ap (λ (x : ℕ). eqb a x) c.bytes_read.ensures in
    by_filled _ _ _ _ _ p (sym same ∙ c.if-not-is.false) c.if-b-f.true

pub returns : goal.returns
returns c =
    let a = c.args.a in
    let p = sym c.in_ok-fold_refusal.ensures in
    let same = c.is.ensures ∙ ap (λ (x : ℕ). eqb a x) c.bytes_read.ensures in
    by_nothing _ _ _ _ _ p (sym same ∙ c.if-not-is.false) c.if-b-f.false
