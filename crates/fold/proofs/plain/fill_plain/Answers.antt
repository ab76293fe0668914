-- `fill_plain` meets its contract: the first j rows are there.
use Prim.Native.Nat.{◌+◌, ◌-◌, ◌*◌, ◌≤◌}
use mathlib.Core.Path.{◌≡◌}
use native.Mathlib.Omega.{arith}
use lib.ListN.{length, take, drop}
use Rattle.plan.proofs.Bounds.{fits}
use Rattle.fold.proofs.WideRows.{row_room, room_long, rows_start, rows_turn, rows_done, exponent_small, row_lies}
use Rattle.fold.proofs.plain.fill_plain.Goals as goal
use Rattle.fold.proofs.plain.fill_plain.Goals.{In-loop-j}

-- row j lies within the parity
room : (c : In-loop-j) → let l = c.args.s.l in
    c.loop-j.j * l + l ≤ length c.loop-j.parity
room c = row_room _ _ _ _ _ _ c.loop-j-test.true _ c.loop-j.invariant

length-here : (c : In-loop-j) → let l = c.args.s.l in let a = c.loop-j.j * l in
    length (take (a + l - a) (drop a c.loop-j.parity)) ≡ l
length-here c = room_long _ _ _ _ _ _ c.loop-j-test.true _ c.loop-j.invariant

pub loop-j-init : goal.loop-j-init
loop-j-init c = rows_start _ _ _ c.args.d.now c.args.parity.now c.requires

pub overflow_mul-a : goal.overflow_mul-a
overflow_mul-a c = fits _ (omega (arith, room c))

pub overflow_add-b : goal.overflow_add-b
overflow_add-b c = fits _ (omega (arith, room c))

pub slice_bounds-fill_row-end : goal.slice_bounds-fill_row-end
slice_bounds-fill_row-end c = room c

pub overflow_mul-j : goal.overflow_mul-j
overflow_mul-j c =
    fits _ (omega (arith, exponent_small _ _ _ c.args.d.now c.args.parity.now c.requires _ c.loop-j-test.true))

pub overflow_mul-f : goal.overflow_mul-f
overflow_mul-f c = fits _ (omega (arith, c.requires.parity_long))

pub fill_row-requires : goal.fill_row-requires
fill_row-requires c =
    let d = c.args.d.now in
    let parity = c.args.parity.now in
    let h = c.loop-j-test.true in
    (exponent_small _ _ _ d parity c.requires _ h, row_lies _ _ _ d parity c.requires _ h _ (length-here (goal.at.fill_row-requires c).In-loop-j))

pub loop-j-preserved : goal.loop-j-preserved
loop-j-preserved c =
    let at = c.loop-j in
    rows_turn _ _ _ _ _ _ c.loop-j-test.true at.parity at.invariant _ c.fill_row.ensures

pub shape_of-parity : goal.shape_of-parity
shape_of-parity c = omega (arith, c.loop-j.invariant.long, c.requires.parity_long)

pub returns : goal.returns
returns c =
    rows_done _ _ _ c.args.d.now c.args.parity.now c.requires _ _ c.loop-j-test.false c.loop-j.invariant
