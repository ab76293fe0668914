-- `sixteenfold_all` meets its contract: after q turns the q first places are done.
use native.Mathlib.Omega.{arith}
use native.Mathlib.Nat.{le_refl}
use mathlib.Core.Path.{◌∙◌}
use Prim.Native.Nat.{ℕ}
use mathlib.Core.Logic.{inl}
use Rattle.field.specs.Field.{◌⊗◌}
use Rattle.lanes.proofs.Onto.{start, turn, done, onto-map}
use Rattle.weights.proofs.sixteenfold_all.Goals as goal

pub loop-x-init : goal.loop-x-init
loop-x-init c = start _ _ _

pub loop-x-preserved : goal.loop-x-preserved
loop-x-preserved c = turn _ c.loop-x.invariant (omega arith) c.loop-x-test.true c.sixteenfold.ensures

pub returns : goal.returns
returns c = done c.loop-x.invariant c.loop-x-test.false (inl (le_refl _)) ∙ onto-map (λ (x : ℕ). 16 ⊗ x) _
