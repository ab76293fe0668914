-- `solve_runs` meets its contract.
use Prim.Native.Nat.{ℕ}
use mathlib.Core.Path.{◌≡◌, refl, sym, ap, subst, ◌∙◌}
use native.Mathlib.Omega.{arith}
use lib.Seq.{length-take-le}
use Rattle.stripe.specs.Stripe.{runs}
use Rattle.stripe.proofs.Allowed.{allowed}
use Rattle.stripe.proofs.Errors.{points as powers}
use Rattle.mending.specs.System.{less}
use Rattle.mending.specs.Scratch.{SolvedBelow}
use Rattle.mending.proofs.Posed.{weights_asked, first_few, step_few}
use Rattle.mending.proofs.Slots.{spaced_as}
use Rattle.mending.proofs.Runs.{first_length, step_length, sizes, runs_start, run_spaced, run_solved, powers_length}
use Rattle.mending.proofs.run.solve_runs.Goals as goal

pub row_weights-points-requires : goal.row_weights-points-requires
row_weights-points-requires c =
    let f = allowed c.args.s c.requires.shape in
    weights_asked c.args.s c.args.p _ _ f c.requires.posed (omega arith)
    (omega (arith, step_few c.args.s f c.args.p c.requires.posed, first_few c.args.s f c.args.p c.requires.posed))

pub row_weights-weights-requires : goal.row_weights-weights-requires
row_weights-weights-requires c =
    let f = allowed c.args.s c.requires.shape in
    weights_asked c.args.s c.args.p _ _ f c.requires.posed (omega arith)
    (omega (arith, first_few c.args.s f c.args.p c.requires.posed))

pub overflow_mul-at : goal.overflow_mul-at
overflow_mul-at c =
    omega (
      arith,
      first_length c.args.s c.args.p (allowed c.args.s c.requires.shape) c.requires.posed,
      step_length c.args.s c.args.p (allowed c.args.s c.requires.shape) c.requires.posed,
    )

pub overflow_mul-d : goal.overflow_mul-d
overflow_mul-d c =
    omega (arith, step_length c.args.s c.args.p (allowed c.args.s c.requires.shape) c.requires.posed)

pub loop-b-init : goal.loop-b-init
loop-b-init c =
    let slice-known = c.slice_known-1 in
    (refl, (λ i. (slice-known.given i).fits, λ xs b t. runs_start c.args.s c.args.p xs _ t))

pub carry-requires : goal.carry-requires
carry-requires c =
    let w = c.requires in (
      record { shape = w.shape; posed = w.posed; long = c.loop-b.invariant.0 ∙ w.long },
      (
        c.run_length-m.ensures,
        omega (arith, c.loop-b-test.true, c.runs-n.ensures),
      ),
    )

pub slice_bounds-points-end : goal.slice_bounds-points-end
slice_bounds-points-end c =
    let row-weights = c.row_weights-points in
    let w = c.requires.posed in
    omega (arith, row-weights.ensures.0, w.many, w.few)

pub slice_bounds-solve_slots-end : goal.slice_bounds-solve_slots-end
slice_bounds-solve_slots-end c =
    let row-weights = c.row_weights-points in
    let w = c.requires.posed in
    sym (length-take-le c.args.p.count row-weights.result (omega (arith, row-weights.ensures.0, w.many, w.few)))

pub slice_bounds-weights-end : goal.slice_bounds-weights-end
slice_bounds-weights-end c =
    let row-weights2 = c.row_weights-weights in
    let w = c.requires.posed in
    omega (arith, row-weights2.ensures.0, w.many, w.few)

pub slice_bounds-solve_slots-end-in-loop-b : goal.slice_bounds-solve_slots-end-in-loop-b
slice_bounds-solve_slots-end-in-loop-b c =
    let row-weights2 = c.row_weights-weights in
    let w = c.requires.posed in
    sym (length-take-le c.args.p.count row-weights2.result (omega (arith, row-weights2.ensures.0, w.many, w.few)))

pub overflow_mul-b : goal.overflow_mul-b
overflow_mul-b c =
    let runs' = c.runs-n in
    let run_length = c.run_length-m in
    let loop = c.loop-b in
    let loop-test = c.loop-b-test in
    let w = c.requires in
    let f = allowed c.args.s w.shape in
    let z = sizes c.args.s c.args.p loop.b 0 run_length.result f w.posed run_length.ensures
    (omega (arith, loop-test.true, runs'.ensures)) f.parity_some in
    omega (arith, z.run)

pub overflow_add-at : goal.overflow_add-at
overflow_add-at c =
    let runs' = c.runs-n in
    let run_length = c.run_length-m in
    let loop = c.loop-b in
    let loop-test = c.loop-b-test in
    let w = c.requires in
    let f = allowed c.args.s w.shape in
    let z = sizes c.args.s c.args.p loop.b 0 run_length.result f w.posed run_length.ensures
    (omega (arith, loop-test.true, runs'.ensures)) f.parity_some in
    omega (arith, z.first, z.run)

pub solve_slots-requires : goal.solve_slots-requires
solve_slots-requires c =
    let loop = c.loop-b in
    let run_length = c.run_length-m in
    let runs' = c.runs-n in
    let weights = c.row_weights-weights in
    let points = c.row_weights-points in
    let a = c.args in
    let w = c.requires in
    let f = allowed a.s w.shape in
    let k = c.carry.ensures in
    let is = ap (less a.p.pivot) w.posed.front in
    let bs = powers_length a.s f a.p w.posed a.p.step _ (points.ensures.1 ∙ ap (powers a.p.step) is) in
    let ws = powers_length a.s f a.p w.posed a.p.first _ (weights.ensures.1 ∙ ap (powers a.p.first) is) in
    let test = c.loop-b-test in
    let rows = run_spaced a.s a.p loop.b run_length.result _ f w.posed run_length.ensures
    (omega (arith, test.true, runs'.ensures)) w.long in
    (spaced_as _ _ _ _ _ _ _ (sym bs) (sym (k.long ∙ loop.invariant.0)) rows, ws ∙ sym bs)

pub loop-b-preserved : goal.loop-b-preserved
loop-b-preserved c =
    let row-weights = c.row_weights-points in
    let row-weights2 = c.row_weights-weights in
    let runs' = c.runs-n in
    let run_length = c.run_length-m in
    let loop-test = c.loop-b-test in
    let carry = c.carry in
    let slice-known2 = c.slice_known-in-loop-b-1 in
    let a = c.args in
    let w = c.requires in
    let t = c.loop-b in
    let is = ap (less a.p.pivot) w.posed.front in
    let k = run_solved a.s (allowed a.s w.shape) a.p w.posed t.b run_length.result _ _ t.slots carry.new.slots _
    run_length.ensures (omega (arith, loop-test.true, runs'.ensures)) t.invariant.1.0 (λ i. (slice-known2.given i).fits)
    (row-weights.ensures.1 ∙ ap (powers a.p.step) is) (row-weights2.ensures.1 ∙ ap (powers a.p.first) is) carry.ensures
    c.solve_slots.ensures in
    (k.long ∙ t.invariant.0, (λ i. (c.slice_known-in-loop-b-2-1.given i).fits, λ xs b z. k.more xs b (t.invariant.1.1 xs b z)))

pub shape_of-slots : goal.shape_of-slots
shape_of-slots c = c.loop-b.invariant.0

pub returns : goal.returns
returns c =
    let t = c.loop-b in
    let e : t.b ≡ runs c.args.s = omega (arith, c.loop-b-test.false, c.runs-n.ensures) in
    record { long = t.invariant.0; all = λ xs b z. subst (λ (x : ℕ). SolvedBelow c.args.s c.args.p xs x t.slots) e (t.invariant.1.1 xs b z) }
