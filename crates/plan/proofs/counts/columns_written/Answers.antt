-- `columns_written` meets its contract: a refused fold writes nothing, and any other f columns.
use mathlib.Core.Path.{sym, ◌∙◌}
use Rattle.stripe.proofs.Refused.{is_refused, is_accepted}
use Rattle.plan.proofs.Costs.{columns_written_lem}
use Rattle.plan.proofs.Refusals.{no_columns_written}
use Rattle.plan.proofs.counts.columns_written.Goals as goal

pub returns-then-is_err : goal.returns-then-is_err
returns-then-is_err c = no_columns_written _ _ _ (λ e. is_refused _ c.if-is_err.ensures.value (c.fold_refusal.ensures ∙ e))

pub returns : goal.returns
returns c = sym (columns_written_lem _ _ _ (sym c.fold_refusal.ensures ∙ is_accepted _ c.if-is_err.ensures.value))
