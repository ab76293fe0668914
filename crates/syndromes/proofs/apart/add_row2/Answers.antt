-- `add_row2` meets its contract: where there is a row 2, a block is added to it.
use mathlib.Core.Path.{◌≡◌}
use native.Mathlib.Omega.{arith}
use Rattle.syndromes.proofs.Upwards.{places_less, block_room, added_row2}
use Rattle.syndromes.proofs.apart.add_row2.Goals as goal

pub below_row2-b2-requires : goal.below_row2-b2-requires
below_row2-b2-requires c = places_less 3 (omega arith) c.if-r-lt3.false c.requires.0

pub overflow_add-l : goal.overflow_add-l
overflow_add-l c =
    let h = c.requires in
    omega (arith, block_room _ 2 c.if-r-lt3.false h.1.0 h.0.fits h.1.1.long)

pub overflow_add-l-2 : goal.overflow_add-l-2
overflow_add-l-2 c =
    let h = c.requires in
    omega (arith, block_room _ 2 c.if-r-lt3.false h.1.0 h.0.fits h.1.1.long)

pub plus-requires : goal.plus-requires
plus-requires c =
    let h = c.requires in
    (omega (arith, block_room _ 2 c.if-r-lt3.false h.1.0 h.0.fits h.1.1.long), h.1.0)

pub returns : goal.returns
returns c =
    let h = c.requires in
    let few = h.1.0 in
    let three : c.args.s.r ≡ 3 = omega (arith, c.if-r-lt3.false, h.0.most) in
    added_row2 _ _ _ _ _ _ (omega (arith, h.0.fits, few)) h.0.within _ _ _ _ _ three (λ q p. c.below_row2-b2.ensures q (omega (arith, p, few)))
    c.plus.ensures h.1.1
