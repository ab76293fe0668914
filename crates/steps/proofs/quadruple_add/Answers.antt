-- `steps::quadruple_add` meets its contract: after q turns the q first places are done.
use Rattle.steps.proofs.Steps.{four_times}
use native.Mathlib.Omega.{arith}
use mathlib.Core.Path.{refl, ap, ap₂, ◌∙◌}
use Prim.Native.Nat.{ℕ}
use Rattle.field.specs.Field.{◌⊕◌, ◌⊗◌}
use Rattle.lanes.proofs.Onto.{start, turn, done}
use Rattle.steps.proofs.quadruple_add.Goals as goal

pub loop-q-init : goal.loop-q-init
loop-q-init c = start _ _ _

pub loop-q-preserved : goal.loop-q-preserved
unfolding ◌⊕◌
loop-q-preserved c =
    turn _ c.loop-q.invariant (omega arith) (omega arith)
    (ap₂ ◌⊕◌ (c.double-in-loop-q.ensures ∙ ap (λ (x : ℕ). 2 ⊗ x) c.double.ensures ∙ four_times _) refl)

pub returns : goal.returns
returns c = done c.loop-q.invariant c.loop-q-test.false c.shorter-q-end.ensures.1.1
