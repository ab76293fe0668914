-- `fill_long` meets its contract: at the places below b the rows are there.
use native.Mathlib.Omega.{arith}
use native.Mathlib.Nat.{not-suc-le-zero}
use borrow.Author.Rules.{rules}
use Rattle.rows.proofs.fill_long.Goals as goal

pub loop-b-init : goal.loop-b-init
loop-b-init c = (search rules, search rules, λ j p h less. absurd (not-suc-le-zero less))

pub fill_block-requires : goal.fill_block-requires
fill_block-requires c =
    let h = c.requires in
    let at = c.loop-b in
    let v = c.block_at-at.ensures in
    (h.0, (h.1.0, (v.1.1, (h.1.1.1.0, (h.1.1.1.1.0, (at.invariant.1, λ j p i less. at.invariant.2 j p i (omega (arith, v.0))))))))

pub loop-b-preserved : goal.loop-b-preserved
loop-b-preserved c = (c.block_at-at.ensures.1.1, search rules, c.fill_block.ensures)

pub returns : goal.returns
returns c = λ j p h less. c.loop-b.invariant.2 j p h (omega (arith, c.loop-b-test.false))
