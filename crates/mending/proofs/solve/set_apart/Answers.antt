-- `set_apart` meets its contract: each entry is one weight set apart, where there is one.
use mathlib.Core.Path.{refl}
use native.Mathlib.Omega.{arith}
use lib.ListN.{length-set}
use Rattle.mending.proofs.Filled.{filled_turn}
use Rattle.mending.proofs.solve.set_apart.Invariants.{Apart}
use Rattle.mending.proofs.solve.set_apart.Goals as goal

pub loop-v-init : goal.loop-v-init
loop-v-init c = (refl, λ u l. absurd (omega arith))

pub loop-v-preserved : goal.loop-v-preserved
loop-v-preserved c =
    let l = c.loop-v in
    let a = c.args in (
      simp length-set l.invariant.0,
      filled_turn (Apart a.points.now a.weights.now) l.w l.v _ (omega (arith, l.invariant.0)) l.invariant.1 c.weight_apart.ensures,
    )

pub returns : goal.returns
returns c =
    let l = c.loop-v in
    let few = c.requires.0 in
    record { long = l.invariant.0; at = λ v h. l.invariant.1 v (omega (arith, few)) h }
