-- `all_numbers` meets its contract: the numbers of the first s rows are there.
use Prim.Native.Nat.{◌+◌, ◌*◌, ◌≤◌}
use native.Mathlib.Omega.{arith}
use native.Mathlib.Nat.{not-suc-le-zero, mul-le-mul_right, suc-mul}
use lib.ListN.{length}
use Rattle.matrix.proofs.Digits.{all_turn}
use Rattle.matrix.proofs.all_numbers.Goals as goal
use Rattle.matrix.proofs.all_numbers.Goals.{In-loop-s}

-- a row lies in the matrix
inside : (c : In-loop-s) → let a = c.args in
    c.loop-s.s * a.m + a.m ≤ length a.matrix.now
inside c =
    let m = c.args.m in
    omega (arith, c.requires.1.1.1.1, mul-le-mul_right m c.loop-s-test.true, suc-mul c.loop-s.s m)

pub loop-s-init : goal.loop-s-init
loop-s-init c = record { at = λ s h. absurd (not-suc-le-zero h) }

pub overflow_mul-s-in-loop-s : goal.overflow_mul-s-in-loop-s
overflow_mul-s-in-loop-s c = omega (arith, inside (goal.at.overflow_mul-s-in-loop-s c).In-loop-s)

pub overflow_add-s : goal.overflow_add-s
overflow_add-s c = omega (arith, inside (goal.at.overflow_add-s c).In-loop-s)

pub row_numbers-requires : goal.row_numbers-requires
row_numbers-requires c =
    let h = c.requires in
    (omega arith, (h.1.1.0, omega (arith, inside (goal.at.row_numbers-requires c).In-loop-s)))

pub loop-s-preserved : goal.loop-s-preserved
loop-s-preserved c =
    all_turn c.args.matrix.now c.args.m c.args.i c.args.n c.loop-s.s _ _ c.requires.1.1.0 c.loop-s.invariant c.row_numbers.ensures

pub returns : goal.returns
returns c = record { at = λ s h. c.loop-s.invariant.at s (omega arith) }
