-- `halve_add` meets its contract: after q turns the q first places are done.
use native.Mathlib.Omega.{arith}
use Rattle.field.specs.Field.{◌⊕◌}
use Rattle.lanes.proofs.Onto.{start, turn, done}
use Rattle.syndromes.proofs.downwards.halve_add.Goals as goal

pub loop-q-init : goal.loop-q-init
loop-q-init c = start _ _ _

pub loop-q-preserved : goal.loop-q-preserved
unfolding ◌⊕◌
loop-q-preserved c =
    turn _ c.loop-q.invariant (omega arith) (omega arith) c.halve.ensures

pub returns : goal.returns
returns c = done c.loop-q.invariant c.loop-q-test.false c.shorter-n.ensures.1.1
