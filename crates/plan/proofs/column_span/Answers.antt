-- `column_span` meets its contract: the kind decides which columns are read, and its numbers are small.
use mathlib.Core.Path.{sym, ap, ◌∙◌}
use native.Mathlib.Omega.{arith}
use borrow.Author.Tests.{lt-ltb, le-ltb}
use Rattle.plan.specs.declared.Kind.{Kind}
use Rattle.plan.specs.Plan.{column_span}
use Rattle.plan.proofs.Bounds.{fits, b_prepared, data_small, length_small, first_small, part_small}
use Rattle.plan.proofs.column_span.Goals as goal

pub overflow_add-k : goal.overflow_add-k
overflow_add-k c = fits _ (omega (arith, data_small _ c.requires.0, c.requires.1.1))

pub span_of-requires : goal.span_of-requires
span_of-requires c =
    let p = c.requires in
    (omega (arith, p.1.0), (omega (arith, data_small _ p.0, p.1.1), (omega arith, omega (arith, length_small _ p.0))))

pub nonzero_div-l : goal.nonzero_div-l
nonzero_div-l c =
    let p = b_prepared _ c.args.f c.requires.0 (sym c.in-B.ensures) in
    omega (arith, p.gains)

pub overflow_mul-r : goal.overflow_mul-r
overflow_mul-r c =
    let p = b_prepared _ c.args.f c.requires.0 (sym c.in-B.ensures) in
    fits _ (omega (arith, first_small _ c.requires.0 p))

pub overflow_sub-t : goal.overflow_sub-t
overflow_sub-t c =
    let p = b_prepared _ c.args.f c.requires.0 (sym c.in-B.ensures) in
    omega (arith, p.gains)

pub nonzero_div-l-then-i-k : goal.nonzero_div-l-then-i-k
nonzero_div-l-then-i-k c =
    let p = b_prepared _ c.args.f c.requires.0 (sym c.in-B.ensures) in
    omega (arith, p.gains)

pub overflow_mul-t : goal.overflow_mul-t
overflow_mul-t c = fits _ (omega (arith, part_small _ c.requires.0))

pub span_of-requires-then-i-k : goal.span_of-requires-then-i-k
span_of-requires-then-i-k c =
    let p = c.requires in
    let b = b_prepared _ c.args.f p.0 (sym c.in-B.ensures) in
    (omega (arith, p.1.0), (omega (arith, p.1.1), (omega (arith, first_small _ p.0 b), omega (arith, part_small _ p.0))))

pub span_of-requires-else-i-k : goal.span_of-requires-else-i-k
span_of-requires-else-i-k c =
    let p = c.requires in (omega (arith, p.1.0), (omega (arith, p.1.1), (omega arith, omega (arith, length_small _ p.0))))

pub span_of-requires-in-C : goal.span_of-requires-in-C
span_of-requires-in-C c =
    let p = c.requires in (omega (arith, p.1.0), (omega (arith, p.1.1), (omega arith, omega (arith, length_small _ p.0))))

pub returns-in-A : goal.returns-in-A
unfolding column_span
returns-in-A c =
    c.span_of.ensures
    ∙ sym (ap (λ (κ : Kind). column_span κ c.args.s c.args.n c.args.i)
    (sym c.in-A.ensures))

pub returns-then-i-k : goal.returns-then-i-k
unfolding column_span
returns-then-i-k c =
    c.span_of-then-i-k.ensures
    ∙ sym (ap (λ (κ : Kind). column_span κ c.args.s c.args.n c.args.i)
    (sym c.in-B.ensures)
    ∙ simp (lt-ltb _ _ c.if-i-k.true))

pub returns-else-i-k : goal.returns-else-i-k
unfolding column_span
returns-else-i-k c =
    c.span_of-else-i-k.ensures
    ∙ sym (ap (λ (κ : Kind). column_span κ c.args.s c.args.n c.args.i)
    (sym c.in-B.ensures)
    ∙ simp (le-ltb _ _ c.if-i-k.false))

pub returns-in-C : goal.returns-in-C
unfolding column_span
returns-in-C c =
    c.span_of-in-C.ensures
    ∙ sym (ap (λ (κ : Kind). column_span κ c.args.s c.args.n c.args.i)
    (sym c.in-C.ensures))
