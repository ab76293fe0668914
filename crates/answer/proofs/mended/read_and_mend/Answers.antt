-- Reading refuses, or its buffers are mended, or mending refuses.
use Prim.Native.Nat.{◌+◌, ◌*◌}
use mathlib.Core.Path.{refl, sym, ap}
use mathlib.Core.List.{[]}
use native.Mathlib.Omega.{arith}
use lib.ListN.{length}
use lib.Seq.{length-take-le}
use Rattle.std.specs.declared.result.Result.TheVariants.{Ok, Err}
use Rattle.stripe.specs.Refusal.{refusal_number}
use Rattle.stripe.proofs.Refused.{refused_some}
use Rattle.record.specs.Reading.{reported}
use Rattle.answer.proofs.Reading.{blank_long}
use Rattle.answer.proofs.Outcome.{outcome_unread, worked_refused, reported_on}
use Rattle.answer.proofs.Worked.{number_is, stripe_most, list_most, mended_outcome, worked}
use Rattle.answer.proofs.mended.read_and_mend.Goals as goal

pub returns-in_err-read : goal.returns-in_err-read
returns-in_err-read c =
    let g = c.read_record in
    let a = c.args in
    let v = c.in_err-read.field-0.0 in
    let e = refused_some v in
    worked_refused a.bytes.now _ _ [] (refusal_number v) _
    (outcome_unread a.bytes.now 65536 258 (refusal_number v)
    (number_is a.bytes.now a.held.now a.list.now (reported (Err v)) g.new.stripe g.new.lost c.requires
    (c.in_err-read.ensures.value, (g.ensures.stripe_after, g.ensures.lost_after))) (λ z. omega (arith, e, z)))
    (λ z. omega (arith, e, z)) (reported_on _ v c.from_residual.ensures.1)

pub overflow_mul-n : goal.overflow_mul-n
overflow_mul-n c =
    let g = c.read_record in
    let a = c.args in
    omega (
      arith,
      stripe_most a.bytes.now a.held.now a.list.now (reported (Ok c.in_ok-read.read)) g.new.stripe g.new.lost c.requires
          (c.in_ok-read.ensures.value, (g.ensures.stripe_after, g.ensures.lost_after)) refl,
    )

pub slice_bounds-mend_listed-end : goal.slice_bounds-mend_listed-end
slice_bounds-mend_listed-end c =
    let g = c.read_record in
    let a = c.args in
    omega (
      arith,
      stripe_most a.bytes.now a.held.now a.list.now (reported (Ok c.in_ok-read.read)) g.new.stripe g.new.lost c.requires
          (c.in_ok-read.ensures.value, (g.ensures.stripe_after, g.ensures.lost_after)) refl,
      ap length c.requires.0,
      blank_long,
    )

pub slice_bounds-mend_listed-end-2 : goal.slice_bounds-mend_listed-end-2
slice_bounds-mend_listed-end-2 c =
    let g = c.read_record in
    let a = c.args in
    sym (length-take-le ((c.in_ok-read.read.shape.k + c.in_ok-read.read.shape.r) * c.in_ok-read.read.shape.l) g.new.stripe
    (omega (
      arith,
      stripe_most a.bytes.now a.held.now a.list.now (reported (Ok c.in_ok-read.read)) g.new.stripe g.new.lost c.requires
          (c.in_ok-read.ensures.value, (g.ensures.stripe_after, g.ensures.lost_after)) refl,
      ap length c.requires.0,
      blank_long,
    )))

pub slice_bounds-mend_listed-end-3 : goal.slice_bounds-mend_listed-end-3
slice_bounds-mend_listed-end-3 c =
    let g = c.read_record in
    let a = c.args in
    omega (
      arith,
      list_most a.bytes.now a.held.now a.list.now (reported (Ok c.in_ok-read.read)) g.new.stripe g.new.lost c.requires
          (c.in_ok-read.ensures.value, (g.ensures.stripe_after, g.ensures.lost_after)) refl,
      c.requires.1,
    )

pub slice_bounds-mend_listed-end-4 : goal.slice_bounds-mend_listed-end-4
slice_bounds-mend_listed-end-4 c =
    let g = c.read_record in
    let a = c.args in
    sym (length-take-le c.in_ok-read.read.lost g.new.lost (omega (
      arith,
      list_most a.bytes.now a.held.now a.list.now (reported (Ok c.in_ok-read.read)) g.new.stripe g.new.lost c.requires
          (c.in_ok-read.ensures.value, (g.ensures.stripe_after, g.ensures.lost_after)) refl,
      c.requires.1,
    )))

pub returns-in_err-mend_listed : goal.returns-in_err-mend_listed
returns-in_err-mend_listed c =
    let g = c.read_record in
    let a = c.args in
    let m = c.mend_listed in
    let v = c.in_err-mend_listed.field-0.0 in
    let e = refused_some v in
    worked_refused a.bytes.now _ _ m.new.stripe (refusal_number v) _
    (mended_outcome a.bytes.now a.held.now a.list.now (reported (Ok c.in_ok-read.read)) g.new.stripe g.new.lost c.requires
    (c.in_ok-read.ensures.value, (g.ensures.stripe_after, g.ensures.lost_after)) refl
    (refusal_number v) m.new.stripe c.in_err-mend_listed.ensures)
    (λ z. omega (arith, e, z)) (reported_on _ v c.from_residual-in_err-mend_listed.ensures.1)

pub returns : goal.returns
returns c =
    let g = c.read_record in
    let a = c.args in
    let m = c.mend_listed in
    let n = (c.in_ok-read.read.shape.k + c.in_ok-read.read.shape.r) * c.in_ok-read.read.shape.l in
    worked a.bytes.now a.held.now a.list.now (reported (Ok c.in_ok-read.read)) g.new.stripe g.new.lost c.requires
    (c.in_ok-read.ensures.value, (g.ensures.stripe_after, g.ensures.lost_after)) refl 0 m.new.stripe
    c.in_ok-mend_listed.ensures refl
    (omega (
      arith,
      length-take-le n g.new.stripe (omega (
        arith,
        stripe_most a.bytes.now a.held.now a.list.now (reported (Ok c.in_ok-read.read)) g.new.stripe g.new.lost c.requires
            (c.in_ok-read.ensures.value, (g.ensures.stripe_after, g.ensures.lost_after)) refl,
        ap length c.requires.0,
        blank_long,
      )),
    )) _
