-- `products::scale` meets its contract: after q turns the q first places are done.
use native.Mathlib.Omega.{arith}
use mathlib.Core.Path.{refl, ap₂, ◌∙◌}
use Rattle.field.specs.Field.{◌⊕◌, ◌⊗◌}
use Rattle.lanes.proofs.Onto.{start, turn, done}
use Rattle.products.proofs.scale.Goals as goal

pub loop-q-init : goal.loop-q-init
loop-q-init c = start _ _ _

pub loop-q-preserved : goal.loop-q-preserved
unfolding ◌⊕◌
loop-q-preserved c =
    turn _ c.loop-q.invariant (omega arith) (omega arith) (ap₂ ◌⊕◌ (c.product.ensures ∙ ap₂ ◌⊗◌ c.multiples_of-m.ensures.0 refl) refl)

pub returns : goal.returns
returns c = done c.loop-q.invariant c.loop-q-test.false c.shorter-q-end.ensures.1.1
