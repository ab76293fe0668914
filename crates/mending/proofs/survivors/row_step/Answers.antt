-- `row_step` meets its contract.
use Prim.Native.Nat.{ℕ}
use mathlib.Core.Path.{sym, ap, ◌∙◌}
use native.Mathlib.Nat.{add-zero}
use Rattle.stripe.specs.Stripe.{among}
use Rattle.stripe.proofs.Lost.{row_lost}
use Rattle.mending.specs.Few.{few_list}
use Rattle.mending.proofs.Among.{step_one, step_two, step_next}
use Rattle.mending.proofs.survivors.row_step.Goals as goal

pub returns-then-is_lost : goal.returns-then-is_lost
returns-then-is_lost c =
    step_one (row_lost c.args.k (few_list c.args.lost))
    (ap (λ (x : ℕ). among x (few_list c.args.lost)) (add-zero _) ∙ sym c.is_lost.ensures ∙ c.if-is_lost.true)

pub returns-then-is_lost-2 : goal.returns-then-is_lost-2
returns-then-is_lost-2 c =
    step_two (row_lost c.args.k (few_list c.args.lost))
    (ap (λ (x : ℕ). among x (few_list c.args.lost)) (add-zero _) ∙ sym c.is_lost.ensures ∙ c.if-is_lost.false)
    (sym c.is_lost-2.ensures ∙ c.if-is_lost-2.true)

pub returns : goal.returns
returns c =
    step_next (row_lost c.args.k (few_list c.args.lost))
    (ap (λ (x : ℕ). among x (few_list c.args.lost)) (add-zero _) ∙ sym c.is_lost.ensures ∙ c.if-is_lost.false)
    (sym c.is_lost-2.ensures ∙ c.if-is_lost-2.false)
