-- `bytes_written` meets its contract: a refused fold writes nothing, and any other f columns of L bytes.
use mathlib.Core.Path.{sym, ◌∙◌}
use native.Mathlib.Omega.{arith}
use Rattle.stripe.proofs.Refused.{is_refused, is_accepted}
use Rattle.plan.proofs.Foldable.{foldable}
use Rattle.plan.proofs.Costs.{bytes_written_lem}
use Rattle.plan.proofs.Bounds.{fits, new_product}
use Rattle.plan.proofs.Refusals.{shape_passed, no_bytes_written}
use Rattle.plan.proofs.counts.bytes_written.Goals as goal

pub returns-then-is_err : goal.returns-then-is_err
returns-then-is_err c = no_bytes_written _ _ _ (λ e. is_refused _ c.if-is_err.ensures.value (c.fold_refusal.ensures ∙ e))

pub overflow_mul-result : goal.overflow_mul-result
overflow_mul-result c =
    let p = sym c.fold_refusal.ensures ∙ is_accepted _ c.if-is_err.ensures.value in
    fits _ (omega (arith, new_product _ (shape_passed _ _ _ p) _ (foldable _ _ _ p).new_most))

pub returns : goal.returns
returns c = sym (bytes_written_lem _ _ _ (sym c.fold_refusal.ensures ∙ is_accepted _ c.if-is_err.ensures.value))
