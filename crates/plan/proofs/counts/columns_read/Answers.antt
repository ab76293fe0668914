-- `columns_read` meets its contract: a refused fold reads nothing, and any other what the table says.
use mathlib.Core.Path.{sym, ap, ◌∙◌, subst}
use Prim.Native.Nat.{ℕ, ◌*◌, ◌≤◌}
use native.Mathlib.Omega.{arith}
use Rattle.stripe.proofs.Refused.{is_refused, is_accepted}
use Rattle.plan.proofs.Costs.{columns_read_lem}
use Rattle.plan.proofs.Bounds.{fits, columns_small}
use Rattle.plan.proofs.Refusals.{shape_passed, no_columns}
use Rattle.plan.proofs.counts.columns_read.Goals as goal

pub returns-then-is_err : goal.returns-then-is_err
returns-then-is_err c = no_columns _ _ _ (λ e. is_refused _ c.if-is_err.ensures.value (c.fold_refusal.ensures ∙ e))

pub columns_each-requires : goal.columns_each-requires
columns_each-requires c = shape_passed _ _ _ (sym c.fold_refusal.ensures ∙ is_accepted _ c.if-is_err.ensures.value)

pub overflow_mul-result : goal.overflow_mul-result
overflow_mul-result c =
    let p = sym c.fold_refusal.ensures ∙ is_accepted _ c.if-is_err.ensures.value in
    let h = subst (λ (x : ℕ). c.args.stripes * x ≤ 65790) (sym c.columns_each.ensures) (columns_small _ _ _ p) in
    fits _ (omega (arith, h))

pub returns : goal.returns
returns c =
    ap (λ (x : ℕ). c.args.stripes * x) c.columns_each.ensures
    ∙ sym (columns_read_lem _ _ _ (sym c.fold_refusal.ensures ∙ is_accepted _ c.if-is_err.ensures.value))
