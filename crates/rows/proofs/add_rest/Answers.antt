-- `add_rest` meets its contract: at the places below q the row is added.
use mathlib.Core.Path.{refl, ◌∙◌}
use native.Mathlib.Omega.{arith}
use borrow.Author.Rules.{rules}
use Rattle.rows.proofs.Added.{added_more, added_all}
use Rattle.rows.proofs.add_rest.Goals as goal

pub loop-q-init : goal.loop-q-init
loop-q-init c = (search rules, (refl, λ ps h. h))

pub overflow_add-from : goal.overflow_add-from
overflow_add-from c = omega (arith, c.requires.1.1.1.0, c.loop-q.invariant.0)

pub add_block-requires : goal.add_block-requires
add_block-requires c =
    let h = c.requires in
    let at = c.loop-q in
    let more = c.loop-q-test.true in (
      h.0,
      (
        h.1.0,
        (h.1.1.0, (search rules, (omega (arith, h.1.1.1.0, more, at.invariant.0), omega (arith, at.invariant.1.0, more, at.invariant.0)))),
      ),
    )

pub loop-q-preserved : goal.loop-q-preserved
loop-q-preserved c =
    let at = c.loop-q in
    let block = c.add_block.ensures in (
      omega (arith, c.loop-q-test.true, at.invariant.0),
      (block.long ∙ at.invariant.1.0, λ ps h. added_more _ _ _ _ _ _ 16 _ _ _ _ refl (at.invariant.1.1 ps h) block),
    )

pub overflow_add-from-then-q-m : goal.overflow_add-from-then-q-m
overflow_add-from-then-q-m c = omega (arith, c.requires.1.1.1.0, c.loop-q.invariant.0)

pub add_block-requires-then-q-m : goal.add_block-requires-then-q-m
add_block-requires-then-q-m c =
    let h = c.requires in
    let at = c.loop-q in
    let last = c.loop-q-test.false in (
      h.0,
      (
        h.1.0,
        (h.1.1.0, (omega (arith, last), (omega (arith, h.1.1.1.0, at.invariant.0), omega (arith, at.invariant.1.0, at.invariant.0)))),
      ),
    )

pub returns-then-q-m : goal.returns-then-q-m
returns-then-q-m c =
    let at = c.loop-q in
    λ ps h. added_more _ _ _ _ _ at.q _ _ _ _ _ (omega (arith, h.long, at.invariant.0)) (at.invariant.1.1 ps h) c.add_block-then-q-m.ensures

pub returns-else-q-m : goal.returns-else-q-m
returns-else-q-m c =
    let at = c.loop-q in
    λ ps h. added_all _ _ _ _ _ at.q _ _ _ (omega (arith, c.if-q-m.false, h.long, at.invariant.0)) (at.invariant.1.1 ps h)
