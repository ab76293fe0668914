-- `row_numbers` meets its contract: the numbers of the first g groups are there.
use mathlib.Core.Path.{◌∙◌}
use native.Mathlib.Omega.{arith}
use Rattle.matrix.proofs.Digits.{row_turn, row_before}
use Rattle.matrix.proofs.Groups.{group_most}
use borrow.Author.Rules.{rules}
use Rattle.matrix.proofs.row_numbers.Goals as goal

pub numbers-requires : goal.numbers-requires
numbers-requires c =
    let at = c.loop-g in
    let k = c.in_group-k.ensures in
    let most = group_most c.args.n at.g in
    (omega (arith, c.requires.0), (omega (arith, k, most.0), omega (arith, c.requires.1.1, k, most.1)))

pub loop-g-preserved : goal.loop-g-preserved
loop-g-preserved c =
    let at = c.loop-g in
    let k = c.in_group-k in
    let w = c.numbers.ensures in (
      row_turn c.args.matrix.now c.args.from c.args.row c.args.n at.g k.result _ _ k.ensures at.invariant.0 w,
      λ i h. row_before _ c.args.row at.g _ _ _ w i h ∙ at.invariant.1 i h,
    )

pub returns : goal.returns
returns c =
    let at = c.loop-g in
    record { long = search rules; on = λ g b hg hb. at.invariant.0 g b (omega arith) hb; before = at.invariant.1 }
