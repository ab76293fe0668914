-- `row_weights` meets its contract: each entry is the row's weight at one lost column, where there is one.
use mathlib.Core.Path.{refl}
use native.Mathlib.Omega.{arith}
use native.Mathlib.Nat.{le_refl}
use lib.ListN.{length-set}
use Rattle.mending.proofs.Filled.{filled_turn}
use Rattle.mending.proofs.Posed.{weights_done}
use Rattle.mending.proofs.system.row_weights.Invariants.{Weighs}
use Rattle.mending.proofs.system.row_weights.Goals as goal

pub loop-v-init : goal.loop-v-init
loop-v-init c = (refl, λ u l. absurd (omega arith))

pub loop-v-preserved : goal.loop-v-preserved
loop-v-preserved c =
    let l = c.loop-v in
    let a = c.args in (
      simp length-set l.invariant.0,
      filled_turn (Weighs a.p a.x a.j) l.w l.v _ (omega (arith, l.invariant.0)) l.invariant.1 c.row_weight.ensures,
    )

pub returns : goal.returns
returns c =
    let l = c.loop-v in
    let a = c.args in (
      l.invariant.0,
      weights_done a.p.lost.at l.w a.p.count a.x a.j a.p.count (le_refl a.p.count) c.requires.1.0 c.requires.0 l.invariant.0
          (λ u h. l.invariant.1 u (omega (arith, c.requires.1.0)) h),
    )
