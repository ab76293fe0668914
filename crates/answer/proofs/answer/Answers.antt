-- There is no room, or a refusal is printed, or the mended stripe.
use Prim.Native.Nat.{◌+◌, ◌*◌}
use mathlib.Core.Path.{refl, sym}
use native.Mathlib.Omega.{arith}
use lib.ListN.{take}
use lib.Seq.{length-take-le}
use Rattle.std.specs.declared.result.Result.TheVariants.{Ok}
use Rattle.stripe.specs.Refusal.{refusal_number}
use Rattle.stripe.proofs.Refused.{refused_some}
use Rattle.record.specs.Reading.{reported}
use Rattle.answer.proofs.Outcome.{refusal_front}
use Rattle.answer.specs.Answer.{blank_stripe}
use Rattle.answer.proofs.Worked.{answer_stripe, answer_list, text_front}
use Rattle.answer.proofs.answer.Goals as goal

pub read_and_mend-requires : goal.read_and_mend-requires
unfolding blank_stripe
read_and_mend-requires c = (refl, refl)

pub slice_bounds-list-end : goal.slice_bounds-list-end
slice_bounds-list-end c =
    let w = c.read_and_mend in
    omega (arith, answer_list c.args.bytes.now (reported (Ok c.in-Ok.read)) w.new.held w.new.list c.in-Ok.ensures refl)

pub slice_bounds-write_text-end : goal.slice_bounds-write_text-end
slice_bounds-write_text-end c =
    let w = c.read_and_mend in
    sym (length-take-le c.in-Ok.read.lost w.new.list
    (omega (arith, answer_list c.args.bytes.now (reported (Ok c.in-Ok.read)) w.new.held w.new.list c.in-Ok.ensures refl)))

pub returns-in-Ok : goal.returns-in-Ok
returns-in-Ok c =
    let w = c.read_and_mend in
    let a = c.args in
    let x = c.in-Ok.read in
    let n = (x.shape.k + x.shape.r) * x.shape.l in
    let v = c.write_text in
    text_front a.bytes.now (reported (Ok x)) w.new.held w.new.list c.in-Ok.ensures refl (take n w.new.held) (take x.lost w.new.list) refl refl
    (length-take-le n w.new.held (omega (
      arith,
      answer_stripe a.bytes.now (reported (Ok x)) w.new.held w.new.list c.in-Ok.ensures refl,
    )))
    a.out.now c.if-out-lt140000.false v.result v.new.out v.ensures.value v.ensures.out_after

pub returns-in-Err : goal.returns-in-Err
returns-in-Err c =
    let a = c.args in
    let no = c.in-Err.no in
    let v = c.write_refusal in
    let e = refused_some no in
    refusal_front a.bytes.now a.out.now v.new.out v.result (refusal_number no) c.in-Err.ensures.bytes c.in-Err.ensures.outcome
    c.if-out-lt140000.false (λ z. omega (arith, e, z)) (rw c.from.ensures at v.ensures.value) (rw c.from.ensures at v.ensures.out_after)
