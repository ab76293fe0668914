-- `Shape::run_length` meets its contract: there is always a run.
use mathlib.Core.Path.{sym, subst}
use Prim.Native.Nat.{ℕ, ◌<◌}
use Rattle.stripe.proofs.Allowed.{runs_positive, run_length_by}
use Rattle.stripe.proofs.Shape.run_length.Goals as goal

pub nonzero_div-result : goal.nonzero_div-result
nonzero_div-result c = subst (λ (n : ℕ). 0 < n) (sym c.runs.ensures) (runs_positive c.args.self)

pub returns : goal.returns
returns c = sym (run_length_by c.args.self c.runs.result (sym c.runs.ensures))
