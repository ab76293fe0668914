-- `products::scale_all` meets its contract: after q turns the q first places are done.
use native.Mathlib.Omega.{arith}
use mathlib.Core.Path.{refl, ap₂, ◌∙◌}
use mathlib.Core.Logic.{inl}
use native.Mathlib.Nat.{le_refl}
use Rattle.field.specs.Field.{◌⊗◌}
use Rattle.lanes.proofs.Onto.{start, turn, done, onto-map}
use Rattle.products.proofs.scale_all.Goals as goal

pub loop-x-init : goal.loop-x-init
loop-x-init c = start _ _ _

pub loop-x-preserved : goal.loop-x-preserved
loop-x-preserved c =
    turn _ c.loop-x.invariant (omega arith) c.loop-x-test.true (c.product.ensures ∙ ap₂ ◌⊗◌ c.multiples_of-m.ensures.0 refl)

pub returns : goal.returns
returns c = done c.loop-x.invariant c.loop-x-test.false (inl (le_refl _)) ∙ onto-map _ _
