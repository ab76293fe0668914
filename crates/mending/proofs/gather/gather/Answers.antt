-- `gather` meets its contract.
use Prim.Native.Nat.{◌-◌}
use mathlib.Core.Path.{sym}
use native.Mathlib.Omega.{arith}
use Rattle.products.proofs.Mixing.{within_made}
use Rattle.mending.proofs.Slots.{gathering_start, gathering_turn, gathering_done, sources_disjoint, disjoint_as}
use Rattle.mending.proofs.gather.gather.Goals as goal

pub loop-v-init : goal.loop-v-init
loop-v-init c = gathering_start _ _ _ _ _ _

pub overflow_mul-v : goal.overflow_mul-v
overflow_mul-v c = let w = c.requires in omega (arith, w.source (c.loop-v.v - 1) (omega arith), w.small)

pub overflow_add-from : goal.overflow_add-from
overflow_add-from c = let w = c.requires in omega (arith, w.source (c.loop-v.v - 1) (omega arith), w.small)

pub loop-v-preserved : goal.loop-v-preserved
loop-v-preserved c =
    let mix = c.mix in
    let a = c.args in
    let t = c.loop-v in
    let w = c.requires in
    gathering_turn a.weights.now a.to a.from a.d a.n a.slots.now t.slots mix.new.a t.v (t.v - 1) _
    (omega arith) (omega arith) w t.invariant
    (within_made (disjoint_as _ _ _ _ _ (sym t.invariant.long) (sources_disjoint w (t.v - 1) (omega arith))) mix.ensures)

pub shape_of-slots : goal.shape_of-slots
shape_of-slots c = c.loop-v.invariant.long

pub returns : goal.returns
returns c = gathering_done _ _ _ _ _ _ _ _ c.loop-v-test.false c.loop-v.invariant
