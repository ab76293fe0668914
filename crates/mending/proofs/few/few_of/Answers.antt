-- `few_of` meets its contract: after v turns the first v positions stand in the array.
use mathlib.Core.Path.{◌≡◌, refl}
use native.Mathlib.Omega.{arith}
use lib.ListN.{get_or, length-set}
use Rattle.mending.proofs.Filled.{filled_turn}
use Rattle.mending.proofs.few.few_of.Goals as goal

pub loop-v-init : goal.loop-v-init
loop-v-init c = (refl, λ u l. absurd (omega arith))

pub loop-v-preserved : goal.loop-v-preserved
loop-v-preserved c =
    let l = c.loop-v in
    let all = c.args.lost.at in (
      simp length-set l.invariant.0,
      filled_turn (λ u x. x ≡ get_or all u 0) l.at l.v (get_or all l.v 0) (omega (arith, l.invariant.0)) l.invariant.1 refl,
    )

pub returns : goal.returns
returns c = let l = c.loop-v in (l.invariant.0, (refl, λ v h. l.invariant.1 v (omega arith)))
