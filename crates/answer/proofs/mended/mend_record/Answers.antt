-- A lent buffer of another length is refused; else the buffers that were worked in are handed out, or nothing is.
use Prim.Native.Nat.{◌+◌, ◌*◌}
use mathlib.Core.Path.{refl, sym}
use mathlib.Core.List.{[]}
use native.Mathlib.Omega.{arith}
use lib.ListN.{length, take}
use lib.Seq.{length-take-le}
use Rattle.std.specs.declared.result.Result.TheVariants.{Ok}
use Rattle.record.specs.Reading.{reported}
use Rattle.text.proofs.Pieces.{front_put}
use Rattle.answer.proofs.Reading.{lent_stripe, lent_list}
use Rattle.answer.proofs.Outcome.{outcome_unread, answered_refused}
use Rattle.answer.specs.Answer.{blank_stripe}
use Rattle.answer.proofs.Worked.{answer_stripe, answer_list, answered}
use Rattle.answer.proofs.mended.mend_record.Goals as goal
use Rattle.answer.proofs.mended.mend_record.Goals.{then-stripe-ne65536-via-then-stripe-ne65536, then-stripe-ne65536-via-else-stripe-ne65536+then-lost-ne258}

pub returns-then-stripe-ne65536 : goal.returns-then-stripe-ne65536
returns-then-stripe-ne65536 c =
    let a = c.args in
    answered_refused a.bytes.now a.stripe.now a.lost.now [] 5 _
    (outcome_unread a.bytes.now (length a.stripe.now) (length a.lost.now) 5
    (elim c.then-stripe-ne65536.branch [
      | then-stripe-ne65536-via-then-stripe-ne65536 w ↦
          sym (lent_stripe a.bytes.now (length a.stripe.now) (length a.lost.now) w.if-stripe-ne65536.true)
      | then-stripe-ne65536-via-else-stripe-ne65536+then-lost-ne258 w ↦
          sym (lent_list a.bytes.now (length a.stripe.now) (length a.lost.now) w.if-stripe-ne65536.false w.if-lost-ne258.true)
    ]) (λ z. omega arith)) (λ z. omega arith) refl

pub read_and_mend-requires : goal.read_and_mend-requires
unfolding blank_stripe
read_and_mend-requires c = (refl, refl)

pub slice_bounds-copy_from_slice-end-4 : goal.slice_bounds-copy_from_slice-end-4
slice_bounds-copy_from_slice-end-4 c =
    let w = c.read_and_mend in
    omega (arith, answer_list c.args.bytes.now (reported (Ok c.in_ok-read.read)) w.new.held w.new.list c.in_ok-read.ensures refl, c.if-lost-ne258.false)

pub slice_bounds-copy_from_slice-end-5 : goal.slice_bounds-copy_from_slice-end-5
slice_bounds-copy_from_slice-end-5 c =
    let w = c.read_and_mend in
    sym (length-take-le c.in_ok-read.read.lost c.args.lost.now
    (omega (arith, answer_list c.args.bytes.now (reported (Ok c.in_ok-read.read)) w.new.held w.new.list c.in_ok-read.ensures refl, c.if-lost-ne258.false)))

pub slice_bounds-list-end : goal.slice_bounds-list-end
slice_bounds-list-end c =
    let w = c.read_and_mend in
    omega (arith, answer_list c.args.bytes.now (reported (Ok c.in_ok-read.read)) w.new.held w.new.list c.in_ok-read.ensures refl)

pub slice_bounds-copy_from_slice-end-6 : goal.slice_bounds-copy_from_slice-end-6
slice_bounds-copy_from_slice-end-6 c =
    let w = c.read_and_mend in
    sym (length-take-le c.in_ok-read.read.lost w.new.list
    (omega (arith, answer_list c.args.bytes.now (reported (Ok c.in_ok-read.read)) w.new.held w.new.list c.in_ok-read.ensures refl)))

pub returns : goal.returns
returns c =
    let a = c.args in
    let w = c.read_and_mend in
    let x = c.in_ok-read.read in
    let n = (x.shape.k + x.shape.r) * x.shape.l in
    answered a.bytes.now (reported (Ok x)) w.new.held w.new.list c.in_ok-read.ensures refl a.stripe.now a.lost.now _ _
    c.if-stripe-ne65536.false c.if-lost-ne258.false
    (front_put a.stripe.now c.copy_from_slice.new.self (take n w.new.held) n c.copy_from_slice.ensures.after
    (sym (length-take-le n w.new.held (omega (
      arith,
      answer_stripe a.bytes.now (reported (Ok x)) w.new.held w.new.list c.in_ok-read.ensures refl,
    )))))
    (front_put a.lost.now c.copy_from_slice-2.new.self (take x.lost w.new.list) x.lost c.copy_from_slice-2.ensures.after
    (sym (length-take-le x.lost w.new.list (omega (
      arith,
      answer_list a.bytes.now (reported (Ok x)) w.new.held w.new.list c.in_ok-read.ensures refl,
    )))))
