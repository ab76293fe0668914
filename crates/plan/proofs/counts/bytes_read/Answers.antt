-- `bytes_read_lem` meets its contract: a refused fold reads nothing, and any other what the table says.
use mathlib.Core.Path.{sym, ap, ◌∙◌, subst}
use Prim.Native.Nat.{ℕ, ◌*◌, ◌≤◌}
use native.Mathlib.Omega.{arith}
use Rattle.stripe.proofs.Refused.{is_refused, is_accepted}
use Rattle.plan.proofs.Foldable.{foldable}
use Rattle.plan.proofs.Costs.{bytes_read_lem}
use Rattle.plan.proofs.Bounds.{fits, bytes_small}
use Rattle.plan.proofs.Refusals.{shape_passed, no_bytes}
use Rattle.plan.proofs.counts.bytes_read.Goals as goal

pub returns-then-is_err : goal.returns-then-is_err
returns-then-is_err c = no_bytes _ _ _ (λ e. is_refused _ c.if-is_err.ensures.value (c.fold_refusal.ensures ∙ e))

pub bytes_each-requires : goal.bytes_each-requires
bytes_each-requires c =
    let p = sym c.fold_refusal.ensures ∙ is_accepted _ c.if-is_err.ensures.value in
    (shape_passed _ _ _ p, (foldable _ _ _ p).new_most)

pub overflow_mul-result : goal.overflow_mul-result
overflow_mul-result c =
    let p = sym c.fold_refusal.ensures ∙ is_accepted _ c.if-is_err.ensures.value in
    let h = subst (λ (x : ℕ). c.args.stripes * x ≤ 1044480) (sym c.bytes_each.ensures) (bytes_small _ _ _ p) in
    fits _ (omega (arith, h))

pub returns : goal.returns
returns c =
    ap (λ (x : ℕ). c.args.stripes * x) c.bytes_each.ensures
    ∙ sym (bytes_read_lem _ _ _ (sym c.fold_refusal.ensures ∙ is_accepted _ c.if-is_err.ensures.value))
