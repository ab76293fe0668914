-- `write` meets its contract.
use Prim.Native.Nat.{ℕ, ◌<◌}
use mathlib.Core.Path.{◌≡◌, sym, subst}
use native.Mathlib.Omega.{arith}
use Rattle.stripe.proofs.Allowed.{allowed}
use Rattle.mending.specs.Scratch.{MendedBelow}
use Rattle.mending.proofs.Posed.{first_few, step_few}
use Rattle.mending.proofs.Added.{row_position, slot_below, added_start, added_turn, slot_ends, write_sizes}
use Rattle.mending.proofs.write.write.Goals as goal

pub loop-v-init : goal.loop-v-init
loop-v-init c =
    added_start c.args.s (allowed c.args.s c.requires.0.shape) c.args.p c.requires.0.posed _ _

pub offset_bounds-at-v : goal.offset_bounds-at-v
offset_bounds-at-v c = omega (arith, c.loop-v-test.true, c.requires.0.posed.few)

pub bounds-at-v : goal.bounds-at-v
bounds-at-v c = omega (arith, c.loop-v-test.true, c.requires.0.posed.few)

pub overflow_mul-c : goal.overflow_mul-c
overflow_mul-c c =
    let z = write_sizes c.args.s (allowed c.args.s c.requires.0.shape) c.args.p c.requires.0.posed c.loop-v.v
    c.loop-v-test.true in
    omega (arith, z.column, z.most)

pub overflow_add-e : goal.overflow_add-e
overflow_add-e c =
    let z = write_sizes c.args.s (allowed c.args.s c.requires.0.shape) c.args.p c.requires.0.posed c.loop-v.v
    c.loop-v-test.true in
    omega (arith, z.column, z.most)

pub slot_row-requires : goal.slot_row-requires
slot_row-requires c =
    let loop = c.loop-v in
    let a = c.args in
    let w = c.requires.0.posed in
    let f = allowed a.s c.requires.0.shape in (
      omega (arith, first_few a.s f a.p w),
      (omega (arith, step_few a.s f a.p w), (omega (arith, c.loop-v-test.true, w.few), row_position a.s f a.p w loop.v c.loop-v-test.true)),
    )

pub overflow_mul-a : goal.overflow_mul-a
overflow_mul-a c =
    let loop = c.loop-v in
    let z = write_sizes c.args.s (allowed c.args.s c.requires.0.shape) c.args.p c.requires.0.posed loop.v
    c.loop-v-test.true in
    let r = slot_ends c.args.s (allowed c.args.s c.requires.0.shape) c.args.p c.requires.0.posed c.slot_row.result
    (subst (λ (x : ℕ). x < c.args.s.r) (sym c.slot_row.ensures) (slot_below c.args.s (allowed c.args.s c.requires.0.shape)
    c.args.p c.requires.0.posed loop.v c.loop-v-test.true)) in
    omega (arith, r, z.small)

pub overflow_add-f : goal.overflow_add-f
overflow_add-f c =
    let loop = c.loop-v in
    let z = write_sizes c.args.s (allowed c.args.s c.requires.0.shape) c.args.p c.requires.0.posed loop.v
    c.loop-v-test.true in
    let r = slot_ends c.args.s (allowed c.args.s c.requires.0.shape) c.args.p c.requires.0.posed c.slot_row.result
    (subst (λ (x : ℕ). x < c.args.s.r) (sym c.slot_row.ensures) (slot_below c.args.s (allowed c.args.s c.requires.0.shape)
    c.args.p c.requires.0.posed loop.v c.loop-v-test.true)) in
    omega (arith, r, z.small)

pub slice_bounds-add-count : goal.slice_bounds-add-count
slice_bounds-add-count c = omega arith

pub slice_bounds-add-end : goal.slice_bounds-add-end
slice_bounds-add-end c =
    let loop = c.loop-v in
    let z = write_sizes c.args.s (allowed c.args.s c.requires.0.shape) c.args.p c.requires.0.posed loop.v
    c.loop-v-test.true in
    omega (arith, z.column, loop.invariant.long, c.requires.1)

pub slice_bounds-add-count-in-loop-v : goal.slice_bounds-add-count-in-loop-v
slice_bounds-add-count-in-loop-v c = omega arith

pub slice_bounds-add-end-in-loop-v : goal.slice_bounds-add-end-in-loop-v
slice_bounds-add-end-in-loop-v c =
    let slot_row = c.slot_row in
    let r = slot_ends c.args.s (allowed c.args.s c.requires.0.shape) c.args.p c.requires.0.posed slot_row.result
    (subst (λ (x : ℕ). x < c.args.s.r) (sym slot_row.ensures) (slot_below c.args.s (allowed c.args.s c.requires.0.shape)
    c.args.p c.requires.0.posed c.loop-v.v c.loop-v-test.true)) in
    omega (arith, r, c.requires.0.long)

pub loop-v-preserved : goal.loop-v-preserved
loop-v-preserved c =
    let if1 = c.loop-v-test in
    let slot_row = c.slot_row in
    let add = c.add in
    let a = c.args in
    let w = c.requires in
    let t = c.loop-v in
    added_turn a.s (allowed a.s w.0.shape) a.p w.0.posed t.v slot_row.result a.slots.now a.stripe.now t.stripe
    add.new.a
    if1.true w.1 w.0.long t.invariant slot_row.ensures add.ensures

pub shape_of-stripe : goal.shape_of-stripe
shape_of-stripe c = c.loop-v.invariant.long

pub returns : goal.returns
returns c =
    let t = c.loop-v in
    let e : t.v ≡ c.args.p.lost.count = omega (arith, c.loop-v-test.false) in
    subst (λ (x : ℕ). MendedBelow c.args.s c.args.p x c.args.slots.now c.args.stripe.now t.stripe) e t.invariant
