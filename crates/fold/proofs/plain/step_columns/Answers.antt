-- `step_columns` meets its contract: the columns from number i on are taken in.
use mathlib.Core.Path.{◌≡◌, refl, subst}
use Prim.Native.Nat.{ℕ, ◌+◌, ◌-◌, ◌*◌, ◌<◌, ◌≤◌}
use native.Mathlib.Omega.{arith}
use lib.ListN.{length}
use Rattle.plan.proofs.Bounds.{fits}
use Rattle.fold.proofs.WideRows.{RowFrom, steps_start, steps_turn, steps_done}
use Rattle.fold.proofs.plain.step_columns.Goals as goal
use Rattle.fold.proofs.plain.step_columns.Goals.{In-loop-i}

-- column i - 1 lies within the bytes read
inside : (c : In-loop-i) → c.args.from + (c.loop-i.i - 1) * c.args.stride + length c.args.row.now ≤ length c.args.d.now
inside c =
    let some : 0 < c.loop-i.i = c.loop-i-test.true in
    c.requires.inside (c.loop-i.i - 1) (omega arith)

pub overflow_sub-last : goal.overflow_sub-last
overflow_sub-last c = c.requires.some

pub loop-i-init : goal.loop-i-init
loop-i-init c = steps_start _ _ (λ i. (c.shared_slice_known-1.given i).fits) _ _ _ _ _ _ refl refl

pub overflow_mul-i : goal.overflow_mul-i
overflow_mul-i c = fits _ (omega (arith, inside (goal.at.overflow_mul-i c).In-loop-i))

pub overflow_add-from : goal.overflow_add-from
overflow_add-from c = fits _ (omega (arith, inside (goal.at.overflow_add-from c).In-loop-i))

pub take_bytes-requires : goal.take_bytes-requires
take_bytes-requires c = omega (arith, inside (goal.at.take_bytes-requires c).In-loop-i, c.loop-i.invariant.long)

pub loop-i-preserved : goal.loop-i-preserved
loop-i-preserved c =
    let at = c.loop-i in
    let some : 0 < at.i = c.loop-i-test.true in
    let below : at.i - 1 < c.args.n = omega arith in
    let room : c.args.from + (at.i - 1) * c.args.stride + length at.row ≤ length c.args.d.now = omega
    (arith, inside (goal.at.loop-i-preserved c).In-loop-i, at.invariant.long) in
    let here : at.i ≡ at.i - 1 + 1 = omega arith in
    let a = c.args in
    let was = subst (λ (x : ℕ). RowFrom a.e a.d.now a.from a.stride a.n (length a.row.now) x at.row) here at.invariant in
    steps_turn _ _ (λ i. (c.shared_slice_known-1.given i).fits) _ _ _ _ (at.i - 1) below at.row _ was room c.take_bytes.ensures

pub shape_of-row : goal.shape_of-row
shape_of-row c = c.loop-i.invariant.long

pub returns : goal.returns
returns c =
    steps_done _ _ (λ i. (c.shared_slice_known-1.given i).fits) _ _ _ _ _ _ c.requires.some c.loop-i-test.false c.loop-i.invariant
