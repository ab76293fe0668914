-- `columns_each` meets its contract: the kind decides how many columns are read, and the sum of kind B's two parts is small.
use mathlib.Core.Path.{sym, ap, ◌∙◌}
use Prim.Native.Nat.{◌+◌}
use native.Mathlib.Omega.{arith}
use Rattle.plan.specs.declared.Kind.{Kind}
use Rattle.plan.specs.Plan.{columns_each}
use Rattle.plan.proofs.Bounds.{data_small, parity_small}
use Rattle.plan.proofs.Capped.{capped_is}
use Rattle.plan.proofs.counts.columns_each.Goals as goal

pub returns-in-A : goal.returns-in-A
unfolding columns_each
returns-in-A c =
    let a = c.args in
    sym (ap (λ (κ : Kind). columns_each κ a.s a.f) (sym c.in-A.ensures))

pub returns-in-B : goal.returns-in-B
unfolding columns_each
returns-in-B c =
    let a = c.args in
    let p = c.requires in
    c.plus.ensures ∙ sym (capped_is (a.s.k + a.s.r) (omega (arith, data_small _ p, parity_small _ p)))
    ∙ sym (ap (λ (κ : Kind). columns_each κ a.s a.f) (sym c.in-B.ensures))

pub returns-in-C : goal.returns-in-C
unfolding columns_each
returns-in-C c =
    let a = c.args in
    sym (ap (λ (κ : Kind). columns_each κ a.s a.f) (sym c.in-C.ensures))
