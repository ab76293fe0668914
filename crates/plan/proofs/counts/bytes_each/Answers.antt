-- `bytes_each` meets its contract: the kind decides the line of the table, and its products and the sum of kind B's two parts are small.
use mathlib.Core.Path.{sym, ap, ◌∙◌}
use Prim.Native.Nat.{◌+◌, ◌-◌, ◌*◌, ◌/◌}
use native.Mathlib.Omega.{arith}
use Rattle.stripe.proofs.Allowed.{allowed}
use Rattle.plan.specs.declared.Kind.{Kind}
use Rattle.plan.specs.Plan.{bytes_each}
use Rattle.plan.proofs.Foldable.{runs_whole}
use Rattle.plan.proofs.Counted.{runs_sum}
use Rattle.plan.proofs.Bounds.{fits, b_prepared, new_product, data_product, part_small, parts_product, parity_product}
use Rattle.plan.proofs.Capped.{capped_is}
use Rattle.plan.proofs.counts.bytes_each.Goals as goal

pub overflow_mul-result : goal.overflow_mul-result
overflow_mul-result c = fits _ (omega (arith, new_product _ c.requires.0 c.args.f c.requires.1))

pub overflow_sub-data : goal.overflow_sub-data
overflow_sub-data c =
    let p = b_prepared _ c.args.f c.requires.0 (sym c.in-B.ensures) in
    omega (arith, p.gains)

pub nonzero_div-data : goal.nonzero_div-data
nonzero_div-data c =
    let p = b_prepared _ c.args.f c.requires.0 (sym c.in-B.ensures) in
    omega (arith, p.gains)

pub overflow_mul-data : goal.overflow_mul-data
overflow_mul-data c = fits _ (omega (arith, part_small _ c.requires.0))

pub overflow_mul-data-in-B : goal.overflow_mul-data-in-B
overflow_mul-data-in-B c = fits _ (omega (arith, parts_product _ c.requires.0))

pub overflow_mul-r : goal.overflow_mul-r
overflow_mul-r c = fits _ (omega (arith, parity_product _ c.requires.0))

pub overflow_mul-result-in-C : goal.overflow_mul-result-in-C
overflow_mul-result-in-C c = fits _ (omega (arith, data_product _ c.requires.0))

pub returns-in-A : goal.returns-in-A
unfolding bytes_each
returns-in-A c =
    let a = c.args in
    sym (ap (λ (κ : Kind). bytes_each κ a.s a.f) (sym c.in-A.ensures))

pub returns-in-B : goal.returns-in-B
unfolding bytes_each
returns-in-B c =
    let s = c.args.s in
    let of-kind = sym c.in-B.ensures in
    let whole = runs_whole s (allowed s c.requires.0) (b_prepared s c.args.f c.requires.0 of-kind) in
    c.plus.ensures
    ∙ sym
    (capped_is
    (s.k * ((s.t - s.r) * (s.l / s.t)) + s.r * s.l)
    (omega (arith, parts_product s c.requires.0, parity_product s c.requires.0)))
    ∙ runs_sum s.k s.r s.t (s.l / s.t) s.l whole
    ∙ sym (ap (λ (κ : Kind). bytes_each κ s c.args.f) of-kind)

pub returns-in-C : goal.returns-in-C
unfolding bytes_each
returns-in-C c =
    let a = c.args in
    sym (ap (λ (κ : Kind). bytes_each κ a.s a.f) (sym c.in-C.ensures))
