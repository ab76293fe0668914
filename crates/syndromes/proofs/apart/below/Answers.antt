-- `below` meets its contract: each array holds its row of the columns before number i.
use native.Mathlib.Omega.{arith}
use Rattle.field.specs.Bytes.{Bytes}
use Rattle.syndromes.proofs.Upwards.{start, turn, done, column_within, back_0, back_1}
use Rattle.syndromes.proofs.apart.below.Goals as goal

pub loop-i-init : goal.loop-i-init
loop-i-init c =
    let a = c.args in
    let known : Bytes a.stripe.now = λ i. (c.shared_slice_known-1.given i).fits in (
      start _ _ _ _ _ _ 0 _ _ known (omega arith) c.bytes_at-row0.ensures.0 c.bytes_at-row0.ensures.1,
      start _ _ _ _ _ _ 1 _ _ known (omega arith) c.bytes_at-row1.ensures.0 c.bytes_at-row1.ensures.1,
    )

pub overflow_mul-o : goal.overflow_mul-o
overflow_mul-o c = omega (arith, column_within _ _ _ _ _ _ _ c.requires c.loop-i-test.true)

pub overflow_add-o : goal.overflow_add-o
overflow_add-o c = omega (arith, column_within _ _ _ _ _ _ _ c.requires c.loop-i-test.true)

pub overflow_add-e : goal.overflow_add-e
overflow_add-e c = omega (arith, column_within _ _ _ _ _ _ _ c.requires c.loop-i-test.true)

pub slice_bounds-d-end : goal.slice_bounds-d-end
slice_bounds-d-end c = omega (arith, column_within _ _ _ _ _ _ _ c.requires c.loop-i-test.true)

pub loop-i-preserved : goal.loop-i-preserved
loop-i-preserved c =
    let at = c.loop-i in
    let a = c.args in
    let known : Bytes a.stripe.now = λ i. (c.shared_slice_known-1.given i).fits in
    let fits = column_within _ a.s.k a.s.l 2 a.x a.from at.i c.requires c.loop-i-test.true in (
      turn _ _ _ _ _ _ 0 _ _ _ _ back_0 known (omega arith) fits at.invariant.0 c.add.ensures,
      turn _ _ _ _ _ _ 1 _ _ _ _ back_1 known (omega arith) fits at.invariant.1 c.halve_add.ensures,
    )

pub returns : goal.returns
returns c =
    let loop = c.loop-i in (
      done _ _ _ _ _ _ 0 loop.i _ _ (omega arith) c.loop-i-test.false loop.invariant.0,
      done _ _ _ _ _ _ 1 loop.i _ _ (omega arith) c.loop-i-test.false loop.invariant.1,
    )
