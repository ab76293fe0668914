-- `shelf_plan_spans` meets its contract: no more spans are stored than there is room for, and than the plan has.
use Prim.Native.Nat.{ℕ, ◌<◌}
use mathlib.Core.Path.{◌≡◌, refl, sym, ap, subst, ◌∙◌}
use mathlib.Core.List.{List}
use native.Mathlib.Omega.{arith}
use lib.ListN.{length, set}
use Rattle.field.proofs.Over.{over_none}
use Rattle.plan.specs.declared.Span.{Span}
use Rattle.plan.specs.Plan.{plan}
use Rattle.plan.proofs.Bounds.{fits}
use Rattle.shelf.specs.Shelf.{SpansAnswer, shape_of}
use Rattle.shelf.proofs.Stored.{front, front_more, front_done, written_few, written_room, written_plan}
use Rattle.shelf.proofs.shelf_plan_spans.Goals as goal
use Rattle.shelf.proofs.shelf_plan_spans.Goals.{After-plan_span}

-- the span of a turn is one of the plan's, and there is room for it
within : (c : After-plan_span) → let a = c.args in
    (c.loop-i.i < length a.spans.now) × (c.loop-i.i < length (plan (shape_of a.k a.r a.t a.l) a.stripes a.f))
within c =
    let a = c.args in
    let s = shape_of a.k a.r a.t a.l in
    let is = ap (λ (x : SpansAnswer). x.spans) c.in-Ok.ensures in (
      omega (arith, is, written_room s a.stripes a.f (length a.spans.now)),
      omega (arith, is, written_plan s a.stripes a.f (length a.spans.now)),
    )

pub loop-i-init : goal.loop-i-init
loop-i-init c = over_none c.args.spans.now 0

pub offset_bounds-spans-i : goal.offset_bounds-spans-i
offset_bounds-spans-i c =
    let a = c.args in
    let is = ap (λ (x : SpansAnswer). x.spans) c.in-Ok.ensures in
    fits _ (omega (arith, is, written_few (shape_of a.k a.r a.t a.l) a.stripes a.f (length a.spans.now)))

pub bounds-spans-i : goal.bounds-spans-i
bounds-spans-i c = omega (arith, (within c).0, c.loop-i.auto.spans)

pub loop-i-preserved : goal.loop-i-preserved
loop-i-preserved c =
    let a = c.args in
    let s = shape_of a.k a.r a.t a.l in
    let stored = subst
    (λ (xs : List Span). set xs c.loop-i.i c.plan_span.result ≡ set (front (plan s a.stripes a.f) c.loop-i.i a.spans.now) c.loop-i.i c.plan_span.result)
    (sym c.loop-i.invariant) refl in
    stored ∙ ap (set (front (plan s a.stripes a.f) c.loop-i.i a.spans.now) c.loop-i.i) c.plan_span.ensures
    ∙ front_more s a.stripes a.f c.loop-i.i a.spans.now (within c).1 (within c).0

pub returns-after-loop-i : goal.returns-after-loop-i
returns-after-loop-i c =
    let a = c.args in
    let s = shape_of a.k a.r a.t a.l in
    let is = c.in-Ok.ensures in
    let all : c.loop-i.i ≡ c.in-Ok.n = omega arith in (
      ap (λ (x : SpansAnswer). x.no) is,
      c.loop-i.invariant
          ∙ ap (λ (i : ℕ). front (plan s a.stripes a.f) i a.spans.now) (all ∙ ap (λ (x : SpansAnswer). x.spans) is)
          ∙ front_done s a.stripes a.f a.spans.now,
    )

pub returns-in-Err : goal.returns-in-Err
returns-in-Err c =
    let a = c.args in
    let s = shape_of a.k a.r a.t a.l in
    let is = c.in-Err.ensures in (
      c.from.ensures ∙ ap (λ (x : SpansAnswer). x.no) is,
      over_none a.spans.now 0 ∙ ap (λ (i : ℕ). front (plan s a.stripes a.f) i a.spans.now) (ap (λ (x : SpansAnswer). x.spans) is)
          ∙ front_done s a.stripes a.f a.spans.now,
    )
