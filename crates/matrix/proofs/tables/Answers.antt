-- `tables` meets its contract: the sums of the first g groups are there.
use native.Mathlib.Omega.{arith}
use native.Mathlib.Nat.{not-suc-le-zero}
use Rattle.matrix.proofs.Turns.{groups_turn, zero_turn}
use Rattle.matrix.proofs.Groups.{group_most}
use Rattle.matrix.proofs.tables.Goals as goal

pub loop-g-init : goal.loop-g-init
loop-g-init c = (λ g h. absurd (not-suc-le-zero h), λ h. absurd (not-suc-le-zero h))

pub sums-requires : goal.sums-requires
sums-requires c =
    let h = c.requires in
    let at = c.loop-g in
    let k = c.in_group-k.ensures in
    let most = group_most c.args.n at.g in
    (omega arith, (omega arith, (omega (arith, k, most.0), (omega (arith, k, most.1, h.1.1.0), (h.1.1.1.0, h.1.1.1.1)))))

pub loop-g-preserved : goal.loop-g-preserved
loop-g-preserved c =
    let at = c.loop-g in
    let k = c.in_group-k in
    let w = c.sums.ensures in (
      groups_turn _ _ c.args.from c.args.stride _ c.args.i c.args.n at.g k.result _ _ c.requires.1.1.1.0 k.ensures at.invariant.0 w,
      λ some. zero_turn _ _ _ _ _ _ at.g _ _ _ at.invariant.1 w,
    )

pub returns : goal.returns
returns c =
    let at = c.loop-g in
    record { groups = λ g h. at.invariant.0 g (omega arith); zero = λ some. at.invariant.1 (omega arith) }
