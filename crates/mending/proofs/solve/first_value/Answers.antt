-- `first_value` meets its contract.
use native.Mathlib.Omega.{arith}
use lib.ListN.{length}
use Rattle.mending.proofs.Slots.{sources_as, rest_long, first_sources, first_one, first_made}
use Rattle.mending.proofs.solve.first_value.Goals as goal

pub overflow_add-at : goal.overflow_add-at
overflow_add-at c = let w = c.requires in omega (arith, w.0.room 0 w.1, w.0.small, w.0.step)

pub gather-requires : goal.gather-requires
gather-requires c =
    let a = c.args in
    let w = c.requires in
    sources_as _ _ _ _ _ _ _ (rest_long a.weights.now) (first_sources (length a.weights.now) a.at a.d a.n _ w.0 w.1)

pub returns-then-w-eq1 : goal.returns-then-w-eq1
returns-then-w-eq1 c =
    let a = c.args in
    let g = c.gather in
    first_one a.weights.now a.at a.d a.n a.slots.now g.new.slots (λ i. (c.slice_known-2-1.given i).fits) c.if-w-eq1.true
    g.ensures

pub overflow_add-e : goal.overflow_add-e
overflow_add-e c = let w = c.requires in omega (arith, w.0.room 0 w.1, w.0.small)

pub slice_bounds-scale_all-end : goal.slice_bounds-scale_all-end
slice_bounds-scale_all-end c =
    let w = c.requires in
    omega (arith, w.0.room 0 w.1, c.gather.ensures.long)

pub returns : goal.returns
returns c =
    let a = c.args in
    let w = c.requires in
    let g = c.gather in
    first_made a.weights.now a.at a.d a.n _ a.slots.now g.new.slots _ (omega (arith, w.0.room 0 w.1, g.ensures.long)) g.ensures
    c.inverse-i.ensures c.scale_all.ensures
