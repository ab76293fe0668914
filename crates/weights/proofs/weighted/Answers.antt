-- `weighted` meets its contract: the weight is one power of g, or two of them.
use mathlib.Core.Path.{◌∙◌, ap}
use mathlib.Core.List.{List}
use Prim.Native.Nat.{ℕ, ◌-◌}
use Rattle.field.specs.Field.{◌⊕◌, ◌⊗◌, gpow}
use Rattle.lanes.specs.Lanes.{onto}
use Rattle.weights.proofs.Weights.{weight_by, weight_four}
use borrow.Author.Rules.{rules}
use Rattle.weights.proofs.weighted.Goals as goal

pub returns-then-acc-d : goal.returns-then-acc-d
returns-then-acc-d c =
    let sixteenfold-all = c.sixteenfold_all in
    c.shifted-then-acc-d.ensures
    ∙ ap (λ (l : List ℕ). onto (λ (x y : ℕ). gpow (c.args.e - 4) ⊗ x ⊕ y) l c.args.d.now) sixteenfold-all.ensures
    ∙ weight_four _ _ _ (search rules) (search rules)

pub returns : goal.returns
returns c =
    c.scale.ensures ∙ weight_by _ _ _ _ c.power.ensures
