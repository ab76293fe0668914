-- `halve` meets its contract: the first bytes are halved, up to the index of x.
use mathlib.Core.Path.{refl, ◌∙◌}
use mathlib.Core.Logic.{inl}
use native.Mathlib.Omega.{arith}
use Rattle.lanes.proofs.Onto.{start, turn, done, onto-map}
use Rattle.matrix.proofs.one.halve.Goals as goal

pub loop-x-init : goal.loop-x-init
loop-x-init c = start _ _ _

pub loop-x-preserved : goal.loop-x-preserved
loop-x-preserved c = turn _ c.loop-x.invariant (omega arith) (omega arith) refl

pub returns : goal.returns
returns c = done {n = c.loop-x.x-index} c.loop-x.invariant (omega arith) (inl (omega arith)) ∙ onto-map _ _
