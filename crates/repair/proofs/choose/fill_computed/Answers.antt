-- `fill_computed` meets its contract: the first v lost positions are there; then the spares.
use mathlib.Core.Path.{refl}
use native.Mathlib.Nat.{not-suc-le-zero}
use native.Mathlib.Omega.{arith}
use lib.ListN.{get_or}
use borrow.Author.Rules.{rules}
use Rattle.lagrange.proofs.Lanes.{set_turn}
use Rattle.repair.proofs.Chosen.{computed_made}
use Rattle.repair.proofs.choose.fill_computed.Goals as goal

pub loop-v-init : goal.loop-v-init
loop-v-init c = (search rules, λ i h. absurd (not-suc-le-zero h))

pub overflow_cast-out : goal.overflow_cast-out
overflow_cast-out c = omega (arith, c.requires.1 c.loop-v.v)

pub loop-v-preserved : goal.loop-v-preserved
loop-v-preserved c =
    let at = c.loop-v in
    let ls = c.args.lost.now in
    (search rules, set_turn at.out (λ i. get_or ls i 0) at.v _ (search rules) refl at.invariant.1)

pub returns : goal.returns
returns c =
    let at = c.loop-v in
    computed_made c.args.lost.now c.args.spares.now at.out _ _ refl (omega (arith, at.invariant.0, c.requires.0)) (λ i h. at.invariant.1 i (omega arith))
    c.copy_from_slice.ensures.after
