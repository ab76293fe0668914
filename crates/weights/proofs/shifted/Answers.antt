-- `shifted` meets its contract: each weight that is made by shifts is that power of g.
use mathlib.Core.Path.{◌≡◌, sym, ap, ◌∙◌}
use native.Mathlib.Omega.{arith}
use borrow.Author.Rules.{rules}
use Rattle.field.specs.Field.{gpow}
use Rattle.weights.proofs.Weights.{weight_none, weight_by, gpow-one, gpow_two, gpow_three, gpow_four}
use Rattle.weights.proofs.shifted.Goals as goal

pub returns-in-0 : goal.returns-in-0
returns-in-0 c = c.add.ensures ∙ weight_none _ _ _ c.in-0.is (λ i. search rules)

pub returns-in-1 : goal.returns-in-1
returns-in-1 c = c.double_add.ensures ∙ weight_by 2 _ _ _ (gpow-one ∙ ap gpow (sym c.in-1.is))

pub returns-in-2 : goal.returns-in-2
returns-in-2 c = c.quadruple_add.ensures ∙ weight_by 4 _ _ _ (gpow_two ∙ ap gpow (sym c.in-2.is))

pub returns-in-3 : goal.returns-in-3
returns-in-3 c = c.eightfold_add.ensures ∙ weight_by 8 _ _ _ (gpow_three ∙ ap gpow (sym c.in-3.is))

pub returns-in_default : goal.returns-in_default
returns-in_default c =
    let e : 4 ≡ c.args.e = omega arith in
    c.sixteenfold_add.ensures ∙ weight_by 16 _ _ _ (gpow_four ∙ ap gpow e)
