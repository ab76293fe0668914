-- `take_all` meets its contract: after the stripes from l on, the parity is their sum.
use mathlib.Core.Path.{◌≡◌, subst, ◌∙◌}
use Prim.Native.Nat.{ℕ, ◌+◌, ◌-◌, ◌/◌, ◌<◌}
use native.Mathlib.Omega.{arith}
use lib.ListN.{length}
use Rattle.plan.proofs.Foldable.{foldable}
use Rattle.plan.proofs.Bounds.{fits}
use Rattle.fold.proofs.Summing.{from, sum_turn, sum_done, each_fits, each_part, all_taken}
use Rattle.fold.proofs.stripes.take_all.Goals as goal

pub nonzero_div-each : goal.nonzero_div-each
nonzero_div-each c = let g = (foldable _ _ _ c.requires.1.0).stripes_some in omega arith

pub overflow_sub-last : goal.overflow_sub-last
overflow_sub-last c = let g = (foldable _ _ _ c.requires.1.0).stripes_some in omega arith

pub loop-l-init : goal.loop-l-init
loop-l-init c = (c.requires.1.1.1.0, (c.requires.1.1.1.1, λ h. absurd (omega arith)))

pub overflow_mul-a : goal.overflow_mul-a
overflow_mul-a c =
    let l = c.loop-l in
    let t = c.loop-l-test.true in
    let h : l.l - 1 < c.args.n = omega arith in
    let w = each_fits c.args.s c.args.n c.args.f c.args.d.now c.requires.1.0 c.requires.1.1.0 (l.l - 1) h in
    fits _ (omega (arith, w))

pub overflow_add-b : goal.overflow_add-b
overflow_add-b c =
    let l = c.loop-l in
    let t = c.loop-l-test.true in
    let h : l.l - 1 < c.args.n = omega arith in
    let w = each_fits c.args.s c.args.n c.args.f c.args.d.now c.requires.1.0 c.requires.1.1.0 (l.l - 1) h in
    fits _ (omega (arith, w))

pub slice_bounds-take_stripe-end : goal.slice_bounds-take_stripe-end
slice_bounds-take_stripe-end c =
    let l = c.loop-l in
    let t = c.loop-l-test.true in
    let h : l.l - 1 < c.args.n = omega arith in
    let w = each_fits c.args.s c.args.n c.args.f c.args.d.now c.requires.1.0 c.requires.1.1.0 (l.l - 1) h in
    omega (arith, w)

pub take_stripe-requires : goal.take_stripe-requires
take_stripe-requires c =
    let l = c.loop-l in
    let t = c.loop-l-test.true in
    let h : l.l - 1 < c.args.n = omega arith in
    let w = each_fits c.args.s c.args.n c.args.f c.args.d.now c.requires.1.0 c.requires.1.1.0 (l.l - 1) h in (
      c.requires.0,
      (each_part c.args.s c.args.n c.args.f c.args.d.now c.requires.1.0 c.requires.1.1.0 (l.l - 1) h, (l.invariant.0, l.invariant.1.0)),
    )

pub loop-l-preserved : goal.loop-l-preserved
loop-l-preserved c =
    let shared-slice-known = c.shared_slice_known-1 in
    let l = c.loop-l in
    let t = c.loop-l-test.true in
    let h : l.l - 1 < c.args.n = omega arith in
    let w = each_fits c.args.s c.args.n c.args.f c.args.d.now c.requires.1.0 c.requires.1.1.0 (l.l - 1) h in
    let k = c.take_stripe in
    let e : l.l ≡ l.l - 1 + 1 = omega arith in
    let before = subst
    (λ (x : ℕ). x < c.args.n → l.parity ≡ from c.args.s c.args.f (length c.args.d.now / c.args.n) c.args.n c.args.d.now x) e
    l.invariant.1.1 in (
      k.auto.rows ∙ l.invariant.0,
      (
        k.auto.parity ∙ l.invariant.1.0,
        λ _. sum_turn c.args.s c.args.f _ c.args.n c.requires.0.rows c.args.d.now (λ i. (shared-slice-known.given i).fits) (l.l - 1) _ _ h
            before k.ensures,
      ),
    )

pub shape_of-rows : goal.shape_of-rows
shape_of-rows c = omega (arith, c.loop-l.invariant.0, c.requires.1.1.1.0)

pub shape_of-parity : goal.shape_of-parity
shape_of-parity c = omega (arith, c.loop-l.invariant.1.0, c.requires.1.1.1.1)

pub returns : goal.returns
returns c =
    let some : c.loop-l.l < c.args.n = let g = (foldable _ _ _ c.requires.1.0).stripes_some in let t = c.loop-l-test.false in omega arith in
    all_taken c.args.s c.args.n c.args.f c.args.d.now c.requires.1.0 c.requires.1.1.0 _ (sum_done c.args.s c.args.f _ c.args.n
    c.requires.0.rows c.args.d.now (λ i. (c.shared_slice_known-1.given i).fits) _ _ c.loop-l-test.false
    (c.loop-l.invariant.1.1 some))
