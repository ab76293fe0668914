-- `add_row` meets its contract.
use mathlib.Core.Path.{sym, ap, subst, ◌∙◌}
use mathlib.Core.List.{List}
use Prim.Native.Nat.{ℕ, ◌+◌, ◌*◌}
use native.Mathlib.Omega.{arith}
use lib.Seq.{length-take-le}
use Rattle.stripe.proofs.Allowed.{allowed}
use Rattle.stripe.proofs.Errors.{points}
use Rattle.mending.specs.System.{less}
use Rattle.mending.specs.Slots.{Gathered}
use Rattle.mending.proofs.Posed.{weights_asked}
use Rattle.mending.proofs.Slots.{sources_as}
use Rattle.mending.proofs.Runs.{first_length, step_length}
use Rattle.mending.proofs.run.add_row.Goals as goal

pub row_weights-w-requires : goal.row_weights-w-requires
row_weights-w-requires c =
    let w = c.requires in
    weights_asked c.args.s c.args.p _ _ (allowed c.args.s w.0.shape) w.0.posed w.1.0 w.1.1.0

pub slice_bounds-w-end : goal.slice_bounds-w-end
slice_bounds-w-end c = let w = c.requires.0.posed in omega (arith, c.row_weights-w.ensures.0, w.many, w.few)

pub slice_bounds-gather-end : goal.slice_bounds-gather-end
slice_bounds-gather-end c =
    let row-weights = c.row_weights-w in
    let w = c.requires.0.posed in
    sym (length-take-le c.args.p.count row-weights.result (omega (arith, row-weights.ensures.0, w.many, w.few)))

pub overflow_mul-p : goal.overflow_mul-p
overflow_mul-p c =
    let w = c.requires in
    omega (arith, first_length c.args.s c.args.p (allowed c.args.s w.0.shape) w.0.posed)

pub overflow_add-p : goal.overflow_add-p
overflow_add-p c =
    let w = c.requires in
    omega (arith, first_length c.args.s c.args.p (allowed c.args.s w.0.shape) w.0.posed, w.1.1.1.0)

pub overflow_mul-p-2 : goal.overflow_mul-p-2
overflow_mul-p-2 c =
    let w = c.requires in
    omega (arith, step_length c.args.s c.args.p (allowed c.args.s w.0.shape) w.0.posed)

pub gather-requires : goal.gather-requires
gather-requires c =
    let row-weights = c.row_weights-w in
    let w = c.requires in
    sources_as _ _ _ _ _ _ _ (sym (length-take-le c.args.p.count row-weights.result
    (omega (arith, row-weights.ensures.0, w.0.posed.many, w.0.posed.few)))) w.1.1.1.1

pub returns : goal.returns
returns c =
    let row-weights = c.row_weights-w in
    let gather = c.gather in
    let a = c.args in
    subst (λ (l : List ℕ). Gathered l a.to (a.p.first * a.s.l + a.off) (a.p.step * a.s.l) a.n a.slots.now gather.new.slots)
    (row-weights.ensures.1 ∙ ap (λ (l : List ℕ). points a.j (less a.x l)) c.requires.0.posed.front) gather.ensures
