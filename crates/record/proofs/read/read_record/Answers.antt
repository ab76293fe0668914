-- `read_record` meets its contract: each return is the first refusal, or all are 0 and both buffers are filled.
use mathlib.Core.Path.{refl, sym, ◌∙◌}
use lib.ListN.{length}
use Rattle.std.specs.declared.result.Result.TheVariants.{Err}
use Rattle.stripe.specs.declared.refusal.Refusal.TheVariants.{Buffer}
use Rattle.record.proofs.Filling.{read_lent, read_content, read_refused, read_accepted}
use Rattle.record.proofs.read.read_record.Goals as goal

pub returns-then-bytes-gt65536 : goal.returns-then-bytes-gt65536
returns-then-bytes-gt65536 c =
    let a = c.args in
    let s = a.bytes.now in
    let x = length a.stripe.now in
    let y = length a.lost.now in
    let all = read_refused s a.stripe.now a.lost.now (Err Buffer) Buffer refl (read_lent s x y c.then-bytes-gt65536.either) in
    record { value = all.0; stripe_after = all.1.0; lost_after = all.1.1 }

pub returns-in_err-lawful : goal.returns-in_err-lawful
returns-in_err-lawful c =
    let a = c.args in
    let s = a.bytes.now in
    let x = length a.stripe.now in
    let y = length a.lost.now in
    let e = c.in_err-lawful in
    let all = read_refused s a.stripe.now a.lost.now _ e.field-0.0 c.from_residual.ensures.1
    (e.ensures.refusal ∙ read_content s x y c.if-bytes-gt65536.false c.if-stripe-ne65536.false c.if-lost-ne258.false) in
    record { value = all.0; stripe_after = all.1.0; lost_after = all.1.1 }

pub returns : goal.returns
returns c =
    let a = c.args in
    let s = a.bytes.now in
    let x = length a.stripe.now in
    let y = length a.lost.now in
    let w = c.in_ok-lawful.ensures in
    let f = c.fill.ensures in
    let all = read_accepted s a.stripe.now a.lost.now _ _ c.in_ok-lawful.lawful
    (sym (w.refusal ∙ read_content s x y c.if-bytes-gt65536.false c.if-stripe-ne65536.false c.if-lost-ne258.false))
    w.ok f.stripe_after f.lost_after in
    record { value = all.0; stripe_after = all.1.0; lost_after = all.1.1 }
