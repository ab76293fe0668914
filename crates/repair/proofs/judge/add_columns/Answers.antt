-- `add_columns` meets its contract: the first v columns are added.
use Prim.Native.Nat.{ℕ, ◌+◌, ◌*◌, ◌≤◌}
use mathlib.Core.Path.{sym, subst}
use native.Mathlib.Omega.{arith}
use lib.ListN.{length}
use Rattle.stripe.proofs.Places.{column_inside}
use Rattle.repair.proofs.Columns.{added_start, added_turn, added_done}
use Rattle.repair.proofs.judge.add_columns.Goals as goal
use Rattle.repair.proofs.judge.add_columns.Goals.{In-loop-v, After-from}

-- the row lies in the rows
row_ends : (c : In-loop-v) → let n = c.args.n in
    c.loop-v.v * n + n ≤ length c.loop-v.rows
row_ends c =
    omega (arith, column_inside c.loop-v.v _ c.args.n c.loop-v-test.true, c.loop-v.invariant.long, c.requires.0)

-- the column lies in the stripe
column_ends : (c : After-from) → let a = c.args in
    c.from.result * a.l + a.at + a.n ≤ length a.stripe.now
column_ends c =
    let a = c.args in
    subst (λ (x : ℕ). x * a.l + a.at + a.n ≤ length a.stripe.now) (sym c.from.ensures)
    (omega (arith, c.requires.1.1 c.loop-v.v c.loop-v-test.true, c.requires.1.0))

pub loop-v-init : goal.loop-v-init
loop-v-init c = added_start _ _ _ _ _ _

pub overflow_mul-a : goal.overflow_mul-a
overflow_mul-a c = omega (arith, row_ends c)

pub overflow_add-b : goal.overflow_add-b
overflow_add-b c = omega (arith, row_ends c)

pub overflow_mul-o : goal.overflow_mul-o
overflow_mul-o c = omega (arith, column_ends c)

pub overflow_add-o : goal.overflow_add-o
overflow_add-o c = omega (arith, column_ends c)

pub overflow_add-e : goal.overflow_add-e
overflow_add-e c = omega (arith, column_ends c)

pub slice_bounds-add-end : goal.slice_bounds-add-end
slice_bounds-add-end c = omega (arith, row_ends (goal.at.slice_bounds-add-end c).In-loop-v)

pub slice_bounds-add-end-in-loop-v : goal.slice_bounds-add-end-in-loop-v
slice_bounds-add-end-in-loop-v c = omega (arith, column_ends (goal.at.slice_bounds-add-end-in-loop-v c).After-from)

pub loop-v-preserved : goal.loop-v-preserved
loop-v-preserved c =
    let at = c.loop-v in
    let here = column_ends (goal.at.loop-v-preserved c).After-from in
    added_turn c.args.columns.now c.args.l c.args.at c.args.n c.args.stripe.now c.args.rows.now at.rows _ at.v
    c.loop-v-test.true c.requires.0 (rw c.from.ensures at here) at.invariant (rw c.from.ensures at c.add.ensures)

pub shape_of-rows : goal.shape_of-rows
shape_of-rows c = c.loop-v.invariant.long

pub returns : goal.returns
returns c = added_done _ _ _ _ _ _ _ _ (omega arith) c.loop-v.invariant
