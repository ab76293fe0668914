-- `put_columns` meets its contract: the first v columns hold their rows.
use Prim.Native.Nat.{ℕ, ◌+◌, ◌*◌, ◌≤◌}
use mathlib.Core.Path.{sym, subst, ◌∙◌}
use native.Mathlib.Omega.{arith}
use lib.ListN.{length}
use Rattle.stripe.proofs.Places.{column_inside}
use Rattle.lanes.proofs.Parts.{part_length}
use Rattle.repair.proofs.Columns.{put_start, put_turn, put_done}
use Rattle.repair.proofs.write.put_columns.Goals as goal
use Rattle.repair.proofs.write.put_columns.Goals.{In-loop-v, After-from}

-- the row lies in the rows
row_ends : (c : In-loop-v) → let a = c.args in
    c.loop-v.v * a.n + a.n ≤ length a.rows.now
row_ends c =
    omega (arith, column_inside c.loop-v.v _ c.args.n c.loop-v-test.true, c.requires.0)

-- the column lies in the stripe
column_ends : (c : After-from) → let a = c.args in
    c.from.result * a.l + a.at + a.n ≤ length a.stripe.now
column_ends c =
    let a = c.args in
    subst (λ (x : ℕ). x * a.l + a.at + a.n ≤ length a.stripe.now) (sym c.from.ensures)
    (omega (arith, c.requires.1.1.1 c.loop-v.v c.loop-v-test.true, c.requires.1.0))

pub loop-v-init : goal.loop-v-init
loop-v-init c = put_start _ _ _ _ _ _

pub overflow_mul-a : goal.overflow_mul-a
overflow_mul-a c = omega (arith, row_ends c)

pub overflow_add-b : goal.overflow_add-b
overflow_add-b c = omega (arith, row_ends c)

pub overflow_mul-o : goal.overflow_mul-o
overflow_mul-o c = omega (arith, column_ends c)

pub overflow_add-o : goal.overflow_add-o
overflow_add-o c = omega (arith, column_ends c)

pub overflow_add-e : goal.overflow_add-e
overflow_add-e c = omega (arith, column_ends c)

pub slice_bounds-copy_from_slice-end : goal.slice_bounds-copy_from_slice-end
slice_bounds-copy_from_slice-end c =
    omega (arith, column_ends (goal.at.slice_bounds-copy_from_slice-end c).After-from, c.loop-v.invariant.long)

pub slice_bounds-copy_from_slice-end-in-loop-v : goal.slice_bounds-copy_from_slice-end-in-loop-v
slice_bounds-copy_from_slice-end-in-loop-v c = omega (arith, row_ends (goal.at.slice_bounds-copy_from_slice-end-in-loop-v c).In-loop-v)

pub copy_from_slice-requires : goal.copy_from_slice-requires
copy_from_slice-requires c =
    let a = c.args in
    let row = row_ends (goal.at.copy_from_slice-requires c).In-loop-v in
    let column = column_ends (goal.at.copy_from_slice-requires c).After-from in
    part_length c.loop-v.stripe (c.from.result * a.l + a.at) a.n (omega (arith, column, c.loop-v.invariant.long))
    ∙ sym (part_length a.rows.now (c.loop-v.v * a.n) a.n row)

pub loop-v-preserved : goal.loop-v-preserved
loop-v-preserved c =
    let at = c.loop-v in
    let here = column_ends (goal.at.loop-v-preserved c).After-from in
    rw c.from.ensures
    (put_turn c.args.rows.now c.args.columns.now c.args.l c.args.at c.args.n c.args.stripe.now at.stripe _ at.v c.loop-v-test.true
    c.requires.1.1.0 c.requires.1.0 c.requires.0 (rw c.from.ensures at here) at.invariant c.copy_from_slice.ensures.after)

pub shape_of-stripe : goal.shape_of-stripe
shape_of-stripe c = c.loop-v.invariant.long

pub returns : goal.returns
returns c = put_done _ _ _ _ _ _ _ _ (omega arith) c.loop-v.invariant
