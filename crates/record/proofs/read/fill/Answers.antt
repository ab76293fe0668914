-- `fill` meets its contract: a lawful record has what both fillers need.
use mathlib.Core.Path.{sym}
use native.Mathlib.Omega.{arith}
use lib.Seq.{length-take-le}
use Rattle.record.proofs.Filling.{fill_few, fill_small, fill_stripe_short, fill_within, fill_front, fill_bytes, fill_columns_is}
use Rattle.record.proofs.read.fill.Goals as goal

pub fill_lost-requires-clause-m_in_bounds : goal.fill_lost-requires-clause-m_in_bounds
fill_lost-requires-clause-m_in_bounds c =
    let p = c.requires in
    omega (arith, fill_few c.args.bytes.now _ p.accepted p.lawful_is)

pub fill_lost-requires-clause-by_index : goal.fill_lost-requires-clause-by_index
fill_lost-requires-clause-by_index c = fill_small c.args.bytes.now _ c.requires.accepted c.requires.lawful_is

pub slice_bounds-fill_columns-count : goal.slice_bounds-fill_columns-count
slice_bounds-fill_columns-count c = fill_within c.args.bytes.now _ c.requires.accepted c.requires.lawful_is

pub slice_bounds-fill_columns-start : goal.slice_bounds-fill_columns-start
slice_bounds-fill_columns-start c = fill_within c.args.bytes.now _ c.requires.accepted c.requires.lawful_is

pub slice_bounds-fill_columns-end-2 : goal.slice_bounds-fill_columns-end-2
slice_bounds-fill_columns-end-2 c = omega (arith, fill_few c.args.bytes.now _ c.requires.accepted c.requires.lawful_is, c.fill_lost.auto.lost)

pub slice_bounds-fill_columns-end-3 : goal.slice_bounds-fill_columns-end-3
slice_bounds-fill_columns-end-3 c =
    sym (length-take-le c.args.lawful.lost c.fill_lost.new.lost
    (omega (arith, fill_few c.args.bytes.now _ c.requires.accepted c.requires.lawful_is, c.fill_lost.auto.lost)))

pub fill_columns-requires-clause-l_in_bounds : goal.fill_columns-requires-clause-l_in_bounds
fill_columns-requires-clause-l_in_bounds c = omega (arith, fill_stripe_short c.args.bytes.now _ c.requires.accepted c.requires.lawful_is)

pub fill_columns-requires-clause-l_in_bounds_2 : goal.fill_columns-requires-clause-l_in_bounds_2
fill_columns-requires-clause-l_in_bounds_2 c =
    let a = c.args in
    let p = c.requires in
    fill_bytes a.bytes.now a.lawful p.accepted p.lawful_is _
    (fill_front a.bytes.now a.lawful p.accepted p.lawful_is a.lost.now c.fill_lost.new.lost c.fill_lost.ensures)

pub returns-clause-stripe_after : goal.returns-clause-stripe_after
returns-clause-stripe_after c =
    let a = c.args in
    let p = c.requires in
    let l = c.fill_lost in
    fill_columns_is a.bytes.now a.lawful p.accepted p.lawful_is _ a.stripe.now _
    (fill_front a.bytes.now a.lawful p.accepted p.lawful_is a.lost.now l.new.lost l.ensures) c.fill_columns.ensures
