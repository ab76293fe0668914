-- `carry` meets its contract.
use Prim.Native.Nat.{ℕ}
use mathlib.Core.Path.{◌≡◌, ap, subst, ◌∙◌}
use native.Mathlib.Omega.{arith}
use Rattle.mending.specs.Scratch.{Carried}
use Rattle.stripe.proofs.Allowed.{allowed}
use Rattle.stripe.proofs.Errors.{points}
use Rattle.mending.proofs.Posed.{less_zero}
use Rattle.mending.proofs.Runs.{sizes, carry_sources, carried_none, carried_start, carried_turn}
use Rattle.mending.proofs.run.carry.Goals as goal

pub returns-then-b-r : goal.returns-then-b-r
returns-then-b-r c = carried_none c.args.s c.args.p _ _ _ c.if-b-r.true

pub loop-j-init : goal.loop-j-init
loop-j-init c = carried_start c.args.s c.args.p _ _

pub overflow_mul-j : goal.overflow_mul-j
overflow_mul-j c =
    let w = c.requires in
    let z = sizes c.args.s c.args.p c.args.b c.loop-j.j c.args.m (allowed c.args.s w.0.shape)
    w.0.posed w.1.0 w.1.1 c.loop-j-test.true in
    omega (arith, z.row)

pub overflow_mul-b : goal.overflow_mul-b
overflow_mul-b c =
    let w = c.requires in
    let z = sizes c.args.s c.args.p c.args.b c.loop-j.j c.args.m (allowed c.args.s w.0.shape)
    w.0.posed w.1.0 w.1.1 c.loop-j-test.true in
    omega (arith, z.run)

pub overflow_add-j : goal.overflow_add-j
overflow_add-j c =
    let w = c.requires in
    let z = sizes c.args.s c.args.p c.args.b c.loop-j.j c.args.m (allowed c.args.s w.0.shape)
    w.0.posed w.1.0 w.1.1 c.loop-j-test.true in
    omega (arith, z.row, z.run)

pub overflow_mul-j-in-loop-j : goal.overflow_mul-j-in-loop-j
overflow_mul-j-in-loop-j c =
    let w = c.requires in
    let z = sizes c.args.s c.args.p c.args.b c.loop-j.j c.args.m (allowed c.args.s w.0.shape)
    w.0.posed w.1.0 w.1.1 c.loop-j-test.true in
    omega (arith, z.like)

pub add_row-requires : goal.add_row-requires
add_row-requires c =
    let loop = c.loop-j in
    let loop-test = c.loop-j-test in
    let a = c.args in
    let w = c.requires in
    let t = loop.invariant in
    let f = allowed a.s w.0.shape in
    let z = sizes a.s a.p a.b loop.j a.m f w.0.posed w.1.0 w.1.1 loop-test.true in (
      record { shape = w.0.shape; posed = w.0.posed; long = t.long ∙ w.0.long },
      (
        omega arith,
        (
          omega (arith, w.1.1, f.runs_most),
          (
            z.like,
            carry_sources a.s f a.p w.0.posed a.b loop.j a.m w.1.0 w.1.1 c.if-b-r.false loop-test.true _
                (t.long ∙ w.0.long),
          ),
        ),
      ),
    )

pub loop-j-preserved : goal.loop-j-preserved
loop-j-preserved c =
    let loop = c.loop-j in
    let loop-test = c.loop-j-test in
    let a = c.args in
    let w = c.requires in
    carried_turn a.s (allowed a.s w.0.shape) a.p w.0.posed a.b loop.j a.m w.1.0 w.1.1
    c.if-b-r.false loop-test.true _ _ _
    (ap (points a.b) (less_zero _)) c.add_row.ensures _ loop.invariant

pub shape_of-slots : goal.shape_of-slots
shape_of-slots c = c.loop-j.invariant.long

pub returns : goal.returns
returns c =
    let t = c.loop-j in
    let e : t.j ≡ c.args.s.r = omega (arith, c.loop-j-test.false) in
    subst (λ (x : ℕ). Carried c.args.s c.args.p c.args.b x c.args.slots.now t.slots) e t.invariant
