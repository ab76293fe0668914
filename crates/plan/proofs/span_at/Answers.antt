-- `span_at` meets its contract: a number below the count is told by division, and any other names no span.
use mathlib.Core.Path.{sym, ◌∙◌, subst}
use Prim.Native.Nat.{ℕ, ◌<◌, ◌≤◌}
use Rattle.plan.proofs.Spans.{span_none, span_allowed, each_some, stripe_small, column_small, span_number}
use Rattle.plan.proofs.Refusals.{shape_passed}
use Rattle.plan.proofs.span_at.Goals as goal

pub returns-then-number-i : goal.returns-then-number-i
returns-then-number-i c =
    let i = c.args.i in
    let many = c.number.ensures ∙ c.columns_read.ensures in
    c.span_of.ensures ∙ sym (span_none _ _ _ _ (subst (λ (x : ℕ). x ≤ i) many c.if-number-i.true))

pub columns_each-requires : goal.columns_each-requires
columns_each-requires c =
    let i = c.args.i in
    let many = c.number.ensures ∙ c.columns_read.ensures in
    shape_passed _ _ _ (span_allowed _ _ _ i (subst (λ (x : ℕ). i < x) many c.if-number-i.false))

pub nonzero_div-i : goal.nonzero_div-i
nonzero_div-i c =
    let i = c.args.i in
    let many = c.number.ensures ∙ c.columns_read.ensures in
    let each = c.number-each.ensures ∙ c.columns_each.ensures in
    each_some _ _ _ _ _ (subst (λ (x : ℕ). i < x) many c.if-number-i.false) each

pub nonzero_rem-i : goal.nonzero_rem-i
nonzero_rem-i c =
    let i = c.args.i in
    let many = c.number.ensures ∙ c.columns_read.ensures in
    let each = c.number-each.ensures ∙ c.columns_each.ensures in
    each_some _ _ _ _ _ (subst (λ (x : ℕ). i < x) many c.if-number-i.false) each

pub column_span-requires : goal.column_span-requires
column_span-requires c =
    let i = c.args.i in
    let many = c.number.ensures ∙ c.columns_read.ensures in
    let each = c.number-each.ensures ∙ c.columns_each.ensures in
    let h = subst (λ (x : ℕ). i < x) many c.if-number-i.false in
    (shape_passed _ _ _ (span_allowed _ _ _ _ h), (stripe_small _ _ _ _ _ h each, column_small _ _ _ _ _ h each))

pub returns : goal.returns
returns c =
    let i = c.args.i in
    let many = c.number.ensures ∙ c.columns_read.ensures in
    let each = c.number-each.ensures ∙ c.columns_each.ensures in
    c.column_span.ensures ∙ span_number _ _ _ _ _ (subst (λ (x : ℕ). i < x) many c.if-number-i.false) each
