-- `shelf_read_record` meets its contract: the list of numbers is judged first, then the record is read, then the numbers are put.
use mathlib.Core.Path.{refl, ◌∙◌}
use native.Mathlib.Omega.{arith}
use Rattle.stripe.proofs.Refused.{refused_some}
use Rattle.shelf.proofs.Recorded.{read_unlisted, read_refused, read_done}
use Rattle.shelf.proofs.records.shelf_read_record.Goals as goal

pub returns-then-numbers-ne5 : goal.returns-then-numbers-ne5
returns-then-numbers-ne5 c = let a = c.args in
    let both = read_unlisted a.«record».now a.stripe.now a.lost.now a.numbers.now c.if-numbers-ne5.true in
    record { value = c.from.ensures ∙ both.0; stripe_after = both.1.0; lost_after = both.1.1.0; numbers_after = both.1.1.1 }

pub returns-in-Err : goal.returns-in-Err
returns-in-Err c =
    let a = c.args in
    let e = c.in-Err.ensures in
    let some = refused_some c.in-Err.no in
    let both = read_refused a.«record».now a.stripe.now a.lost.now a.numbers.now c.if-numbers-ne5.false _ _ _
    e.value e.stripe_after e.lost_after (λ z. omega (arith, some, z)) in
    record { value = c.from-in-Err.ensures ∙ both.0; stripe_after = both.1.0; lost_after = both.1.1.0; numbers_after = both.1.1.1 }

pub returns-in-Ok : goal.returns-in-Ok
returns-in-Ok c =
    let a = c.args in
    let r = c.in-Ok.ensures in
    let both = read_done a.«record».now a.stripe.now a.lost.now a.numbers.now c.if-numbers-ne5.false _ _ _
    r.value r.stripe_after r.lost_after refl _ c.put_numbers.ensures in
    record { value = both.0; stripe_after = both.1.0; lost_after = both.1.1.0; numbers_after = both.1.1.1 }
