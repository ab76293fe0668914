-- `below_row2` meets its contract: the array holds row 2 of the columns before number i.
use native.Mathlib.Omega.{arith}
use Rattle.field.specs.Bytes.{Bytes}
use Rattle.syndromes.proofs.Upwards.{start, turn, done, column_within, back_2}
use Rattle.syndromes.proofs.apart.below_row2.Goals as goal

pub loop-i-init : goal.loop-i-init
loop-i-init c =
    let a = c.args in
    let known : Bytes a.stripe.now = λ i. (c.shared_slice_known-1.given i).fits in
    start _ _ _ _ _ _ 2 _ _ known (omega arith) c.bytes_at-row2.ensures.0 c.bytes_at-row2.ensures.1

pub overflow_mul-o : goal.overflow_mul-o
overflow_mul-o c = omega (arith, column_within _ _ _ _ _ _ _ c.requires c.loop-i-test.true)

pub overflow_add-o : goal.overflow_add-o
overflow_add-o c = omega (arith, column_within _ _ _ _ _ _ _ c.requires c.loop-i-test.true)

pub overflow_add-e : goal.overflow_add-e
overflow_add-e c = omega (arith, column_within _ _ _ _ _ _ _ c.requires c.loop-i-test.true)

pub slice_bounds-quarter_add-end-in-loop-i : goal.slice_bounds-quarter_add-end-in-loop-i
slice_bounds-quarter_add-end-in-loop-i c = omega (arith, column_within _ _ _ _ _ _ _ c.requires c.loop-i-test.true)

pub loop-i-preserved : goal.loop-i-preserved
loop-i-preserved c =
    let at = c.loop-i in
    let a = c.args in
    let known : Bytes a.stripe.now = λ i. (c.shared_slice_known-1.given i).fits in
    let fits = column_within _ a.s.k a.s.l 3 a.x a.from at.i c.requires c.loop-i-test.true in
    turn _ _ _ _ _ _ 2 _ _ _ _ back_2 known (omega arith) fits at.invariant c.quarter_add.ensures

pub returns : goal.returns
returns c =
    let at = c.loop-i in
    done _ _ _ _ _ _ 2 at.i _ _ (omega arith) c.loop-i-test.false at.invariant
