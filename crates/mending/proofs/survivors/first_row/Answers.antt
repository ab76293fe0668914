-- `first_row` meets its contract.
use Prim.Native.Nat.{ℕ}
use mathlib.Core.Path.{sym, ap, ◌∙◌}
use native.Mathlib.Nat.{add-zero}
use Rattle.stripe.specs.Stripe.{among}
use Rattle.stripe.proofs.Lost.{row_lost}
use Rattle.mending.specs.Few.{few_list}
use Rattle.mending.proofs.Among.{first_both, first_one, first_none}
use Rattle.mending.proofs.survivors.first_row.Goals as goal

pub returns-then-is_lost-2 : goal.returns-then-is_lost-2
returns-then-is_lost-2 c =
    first_both (row_lost c.args.k (few_list c.args.lost))
    (ap (λ (x : ℕ). among x (few_list c.args.lost)) (add-zero _) ∙ sym c.is_lost.ensures ∙ c.if-is_lost.true)
    (sym c.is_lost-then-is_lost.ensures ∙ c.if-is_lost-2.true)

pub returns-then-is_lost : goal.returns-then-is_lost
returns-then-is_lost c =
    first_one (row_lost c.args.k (few_list c.args.lost))
    (ap (λ (x : ℕ). among x (few_list c.args.lost)) (add-zero _) ∙ sym c.is_lost.ensures ∙ c.if-is_lost.true)
    (sym c.is_lost-then-is_lost.ensures ∙ c.if-is_lost-2.false)

pub returns : goal.returns
returns c =
    first_none (row_lost c.args.k (few_list c.args.lost))
    (ap (λ (x : ℕ). among x (few_list c.args.lost)) (add-zero _) ∙ sym c.is_lost.ensures ∙ c.if-is_lost.false)
