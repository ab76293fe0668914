-- `add_runs` meets its contract: the runs before j have their piggybacks.
use Prim.Native.Nat.{ℕ, ◌+◌, ◌*◌}
use mathlib.Core.Path.{◌≡◌, refl}
use native.Mathlib.Nat.{mul-le-mul_right}
use native.Mathlib.Omega.{arith}
use lib.ListN.{length}
use borrow.Author.Rules.{rules}
use Rattle.stripe.specs.Stripe.{run_length}
use Rattle.coding.proofs.Piggyback.{Marked, marked, InRun, in_run, column_start, column_turn, beside_turn, column_done, added_run}
use Rattle.coding.proofs.encode.add_runs.Goals as goal
use Rattle.coding.proofs.encode.add_runs.Goals.{In-loop-j, Start}

known : (c : Start) (m : ℕ) → m ≡ run_length c.args.s
    → Marked c.args.s (length c.args.«data».now) (length c.args.out.now) m
known c m = marked c.args.s _ _ m c.requires.0 c.requires.1.0

-- the bytes of a run, and what is known of the arguments within the loop
abbrev width : In-loop-j → ℕ
width c = c.run_length-m.result

known-here : (c : In-loop-j)
    → let a = c.args in Marked a.s (length a.«data».now) (length a.out.now) (width c)
known-here c = marked c.args.s _ _ (width c) c.requires.0 c.requires.1.0 c.run_length-m.ensures

here : (c : In-loop-j)
    → let a = c.args in InRun a.s (length a.«data».now) a.i c.loop-j.j (length c.loop-j.out) (width c)
here c =
    let at = c.loop-j in
    in_run c.args.s _ _ _ _ c.args.i at.j (known-here c) at.invariant.4.long c.requires.1.1.0 c.loop-j-test.true

pub loop-j-init : goal.loop-j-init
loop-j-init c =
    let f = known (goal.at.loop-j-init c).Start _ c.run_length-m.ensures in (
      search rules,
      omega (arith, f.gains),
      f.is,
      column_start c.args.s _ _ _ f.rows f.is f.some _ c.requires.1.1.1,
      record { long = refl; outside = λ x h. refl },
    )

pub overflow_mul-a : goal.overflow_mul-a
overflow_mul-a c = omega (arith, here c)

pub overflow_mul-a-in-loop-j : goal.overflow_mul-a-in-loop-j
overflow_mul-a-in-loop-j c = omega (arith, here c)

pub overflow_add-a : goal.overflow_add-a
overflow_add-a c = omega (arith, here c)

pub overflow_add-e : goal.overflow_add-e
overflow_add-e c = omega (arith, here c)

pub overflow_mul-i : goal.overflow_mul-i
overflow_mul-i c = omega (arith, (here c).run, (here c).known.inside)

pub slice_bounds-add_row-end : goal.slice_bounds-add_row-end
slice_bounds-add_row-end c = omega (arith, here c)

pub loop-j-preserved : goal.loop-j-preserved
loop-j-preserved c =
    let a = c.args in
    let at = c.loop-j in
    let m = width (goal.at.loop-j-preserved c).In-loop-j in
    let f = known-here (goal.at.loop-j-preserved c).In-loop-j in
    let g = added_run a.«data».now a.s.k a.s.l at.j (a.i * m) (a.i * a.s.l + at.j * m) m at.out _
    (omega (arith, here (goal.at.loop-j-preserved c).In-loop-j)) (here (goal.at.loop-j-preserved c).In-loop-j).known
    c.add_row.ensures in (
      search rules,
      search rules,
      at.invariant.2,
      column_turn a.s _ a.i m f.rows f.is f.some at.j at.out _ at.invariant.0 (here (goal.at.loop-j-preserved c).In-loop-j).run g at.invariant.3,
      beside_turn a.s _ a.i m f.rows f.is f.some at.j at.out _ at.invariant.0 (here (goal.at.loop-j-preserved c).In-loop-j).run g _ at.invariant.4,
    )

pub returns : goal.returns
returns c =
    let at = c.loop-j in
    let f = known (goal.at.returns c).Start _ c.run_length-m.ensures in
    let ends = mul-le-mul_right c.run_length-m.result c.loop-j-test.false in
    (column_done c.args.s _ _ _ _ (omega (arith, f.cut, ends)) at.invariant.3, at.invariant.4)
