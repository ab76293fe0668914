-- `add_rows` meets its contract: each block is added to its row.
use native.Mathlib.Omega.{arith}
use Rattle.syndromes.proofs.Upwards.{places_less, block_room, added_rows}
use Rattle.syndromes.proofs.apart.add_rows.Goals as goal

pub below-v-requires : goal.below-v-requires
below-v-requires c = let h = c.requires.0 in places_less 2 (omega arith) h.some h

pub plus-requires : goal.plus-requires
plus-requires c =
    let h = c.requires in
    (omega (arith, block_room _ 0 (omega (arith, h.0.some)) h.1.0 h.0.fits h.1.1.long), h.1.0)

pub overflow_add-l : goal.overflow_add-l
overflow_add-l c =
    let h = c.requires in
    omega (arith, block_room _ 1 h.0.some h.1.0 h.0.fits h.1.1.long)

pub plus-requires-2 : goal.plus-requires-2
plus-requires-2 c =
    let h = c.requires in
    let long = c.plus.ensures.long in
    (omega (arith, long, block_room _ 1 h.0.some h.1.0 h.0.fits h.1.1.long), h.1.0)

pub returns : goal.returns
returns c =
    let h = c.requires in
    let v = c.below-v.ensures in
    let few = h.1.0 in
    added_rows _ _ _ _ _ _ (omega (arith, h.0.fits, few)) h.0.within _ _ _ _ _ _ (λ q p. v.0 q (omega (arith, p, few)))
    (λ q p. v.1 q (omega (arith, p, few))) c.plus.ensures c.plus-2.ensures h.1.1
