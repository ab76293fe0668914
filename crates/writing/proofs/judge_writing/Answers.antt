-- `judge_writing` meets its contract: each return is the first refusal, or all are 0.
use Prim.Native.Nat.{ℕ, ◌+◌, ◌-◌, ◌*◌, ◌≤◌}
use mathlib.Core.Path.{◌≡◌, sym, ap, ◌∙◌}
use mathlib.Core.Logic.{⊎_elim}
use native.Mathlib.Omega.{arith}
use native.Mathlib.Nat.{mul-le-mul_right}
use lib.ListN.{length}
use Rattle.stripe.specs.Shape.{columns}
use Rattle.stripe.proofs.Ascending.{ascending_says}
use Rattle.stripe.proofs.Refused.{handed_on, refused_some}
use Rattle.record.specs.Layout.{record_head, record_of}
use Rattle.record.proofs.Refusals.{described}
use Rattle.writing.proofs.Putting.{few_lost, head_most, record_bytes, write_stripe, write_buffer, write_order, write_long, write_room, write_lawful}
use Rattle.writing.proofs.judge_writing.Goals as goal
use Rattle.writing.proofs.judge_writing.Goals.{Else-not-ascends_below}

pub returns-in_err-stripe_refusal-clause-refusal : goal.returns-in_err-stripe_refusal-clause-refusal
returns-in_err-stripe_refusal-clause-refusal c =
    let a = c.args in
    let e = c.in_err-stripe_refusal in
    let some = refused_some e.field-0.0 in
    handed_on _ e.field-0.0 c.from_residual.ensures.1 ∙ write_stripe a.s a.stripe.now a.lost.now a.room _ e.ensures (λ z. omega arith)

pub overflow_add-n : goal.overflow_add-n
overflow_add-n c = omega (arith, (described c.args.s (sym c.in_ok-stripe_refusal.ensures)).0.columns_most)

pub overflow_mul-n : goal.overflow_mul-n
overflow_mul-n c = omega (arith, (described c.args.s (sym c.in_ok-stripe_refusal.ensures)).1)

pub returns-then-stripe-n-clause-refusal : goal.returns-then-stripe-n-clause-refusal
returns-then-stripe-n-clause-refusal c =
    let a = c.args in
    write_buffer a.s a.stripe.now a.lost.now a.room (sym c.in_ok-stripe_refusal.ensures) c.if-stripe-n.true

pub returns-then-not-ascends_below-clause-refusal : goal.returns-then-not-ascends_below-clause-refusal
returns-then-not-ascends_below-clause-refusal c =
    let a = c.args in
    write_order a.s a.stripe.now a.lost.now a.room (sym c.in_ok-stripe_refusal.ensures) c.if-stripe-n.false
    (sym c.ascends_below.ensures ∙ c.if-not-ascends_below.true)

-- the list ascends, so it is no longer than the columns
few : (c : Else-not-ascends_below) → length c.args.lost.now ≤ columns c.args.s
few c =
    let a = c.args in
    omega (arith, few_lost (columns a.s) a.lost.now (ascending_says 0 (columns a.s) a.lost.now (sym c.ascends_below.ensures ∙ c.if-not-ascends_below.false)))

pub head_length-requires : goal.head_length-requires
head_length-requires c =
    let one = sym c.in_ok-stripe_refusal.ensures in
    record {
      s_value = one;
      lost_len_bound = omega (arith, few (goal.at.head_length-requires c).Else-not-ascends_below, (described c.args.s one).0.columns_most);
    }

pub overflow_sub-length : goal.overflow_sub-length
overflow_sub-length c = omega (arith, few (goal.at.overflow_sub-length c).Else-not-ascends_below)

-- the columns take no more bytes than the stripe
columns_short : (c : Else-not-ascends_below) → (columns c.args.s - length c.args.lost.now) * c.args.s.l ≤ 65536
columns_short c =
    let a = c.args in
    omega (
      arith,
      (described a.s (sym c.in_ok-stripe_refusal.ensures)).1,
      mul-le-mul_right {m = columns a.s - length a.lost.now} {n = columns a.s} a.s.l (omega arith),
    )

pub overflow_mul-length : goal.overflow_mul-length
overflow_mul-length c = omega (arith, columns_short (goal.at.overflow_mul-length c).Else-not-ascends_below)

pub overflow_add-length : goal.overflow_add-length
overflow_add-length c =
    let a = c.args in
    let d = (goal.at.overflow_add-length c).Else-not-ascends_below in
    let most = (described a.s (sym c.in_ok-stripe_refusal.ensures)).0.columns_most in
    omega (arith, columns_short d, c.head_length.ensures, head_most a.s a.lost.now (omega (arith, few d)))

-- what was counted is the record's length
counted : (c : Else-not-ascends_below) (head : ℕ) → head ≡ length (record_head c.args.s c.args.lost.now)
    → let a = c.args in head + (columns a.s - length a.lost.now) * a.s.l ≡ length (record_of a.s a.lost.now a.stripe.now)
counted c head h =
    let a = c.args in
    let ordered = ascending_says 0 (columns a.s) a.lost.now (sym c.ascends_below.ensures ∙ c.if-not-ascends_below.false) in
    ap (λ (n : ℕ). n + (columns a.s - length a.lost.now) * a.s.l) h ∙ sym (record_bytes a.s a.lost.now a.stripe.now ordered c.if-stripe-n.false)

pub returns-then-length-gt65536-clause-refusal : goal.returns-then-length-gt65536-clause-refusal
returns-then-length-gt65536-clause-refusal c =
    let a = c.args in
    let one = sym c.in_ok-stripe_refusal.ensures in
    let ordered = sym c.ascends_below.ensures ∙ c.if-not-ascends_below.false in
    let is = counted (goal.at.returns-then-length-gt65536-clause-refusal c).Else-not-ascends_below _ c.head_length.ensures in
    ⊎_elim (λ h. write_long a.s a.stripe.now a.lost.now a.room one c.if-stripe-n.false ordered (omega arith))
    (λ h. write_room a.s a.stripe.now a.lost.now a.room one c.if-stripe-n.false ordered (omega (arith, h.0)) (omega (arith, h.1)))
    c.then-length-gt65536.either

pub returns : goal.returns
returns c =
    let a = c.args in
    let one = sym c.in_ok-stripe_refusal.ensures in
    let ordered = sym c.ascends_below.ensures ∙ c.if-not-ascends_below.false in
    let is = counted (goal.at.returns c).Else-not-ascends_below _ c.head_length.ensures in
    record {
      refusal = write_lawful a.s a.stripe.now a.lost.now a.room one c.if-stripe-n.false ordered
          (omega (arith, c.if-length-gt65536.false)) (omega (arith, c.if-room-length.false));
      ok = is;
    }
