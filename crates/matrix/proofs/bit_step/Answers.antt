-- `bit_step` meets its contract: the sums of the first g groups are in.
use Prim.Native.Nat.{ℕ, ◌+◌, ◌*◌, ◌<◌}
use mathlib.Core.Path.{◌≡◌, subst}
use native.Mathlib.Omega.{arith}
use lib.ListN.{get_or}
use Rattle.matrix.proofs.Turns.{bit_start, bit_turn, bit_done}
use Rattle.matrix.proofs.bit_step.Goals as goal
use Rattle.matrix.proofs.bit_step.Goals.{After-from, Start}

first_small : (s : Start) → get_or s.args.es.now s.args.row 0 < 16
first_small s =
    let r : s.args.row + 0 * 8 ≡ s.args.row = omega arith in
    subst (λ (x : ℕ). get_or s.args.es.now x 0 < 16) r (s.requires.1.1.1.1 0 (omega arith))

pub overflow_mul-first : goal.overflow_mul-first
overflow_mul-first c = omega (arith, first_small (goal.at.overflow_mul-first c).Start, c.from-first.ensures)

pub overflow_add-first : goal.overflow_add-first
overflow_add-first c = omega (arith, first_small (goal.at.overflow_add-first c).Start, c.from-first.ensures)

pub slice_bounds-double_add-end-2 : goal.slice_bounds-double_add-end-2
slice_bounds-double_add-end-2 c = omega (arith, first_small (goal.at.slice_bounds-double_add-end-2 c).Start, c.from-first.ensures)

pub loop-g-init : goal.loop-g-init
loop-g-init c = bit_start _ _ _ _

-- the number of group g is that of a sum
number_small : (c : After-from) → c.from.result < 16
number_small c =
    omega (arith, c.requires.1.1.1.1 c.loop-g.g c.loop-g-test.true, c.from.ensures)

pub overflow_add-o : goal.overflow_add-o
overflow_add-o c = omega (arith, number_small c)

pub overflow_mul-o-in-loop-g : goal.overflow_mul-o-in-loop-g
overflow_mul-o-in-loop-g c = omega (arith, number_small c)

pub overflow_add-o-in-loop-g : goal.overflow_add-o-in-loop-g
overflow_add-o-in-loop-g c = omega (arith, number_small (goal.at.overflow_add-o-in-loop-g c).After-from)

pub slice_bounds-add-end-in-loop-g : goal.slice_bounds-add-end-in-loop-g
slice_bounds-add-end-in-loop-g c = omega (arith, number_small (goal.at.slice_bounds-add-end-in-loop-g c).After-from)

pub loop-g-preserved : goal.loop-g-preserved
loop-g-preserved c =
    let at = c.loop-g in
    let e = c.from.ensures in
    let few = number_small (goal.at.loop-g-preserved c).After-from in
    let o = (at.g * 16 + c.from.result) * 64 in
    let t = c.args.t.now in
    let es = c.args.es.now in
    bit_turn t es c.args.row at.g o _ _ _ (omega arith) (omega arith) (omega arith) at.invariant c.add.ensures

pub returns : goal.returns
returns c =
    let few = first_small (goal.at.returns c).Start in
    let e = c.from-first.ensures in
    let o = c.from-first.result * 64 in
    let first = c.double_add.ensures in
    bit_done c.args.t.now c.args.es.now c.args.row c.args.n c.loop-g.g o _ _ _
    (omega arith) (omega arith) (omega arith) (omega arith) first c.loop-g.invariant
