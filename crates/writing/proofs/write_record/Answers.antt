-- `write_record` meets its contract: what was judged is reported, and the record is put where it is lawful.
use mathlib.Core.Path.{sym}
use Rattle.writing.proofs.Putting.{write_refused, write_accepted}
use Rattle.writing.proofs.write_record.Goals as goal

pub returns-in_err-length : goal.returns-in_err-length
returns-in_err-length c =
    let a = c.args in
    let e = c.in_err-length in
    let both = write_refused a.s a.stripe.now a.lost.now a.out.now _ e.field-0.0 c.from_residual.ensures.1 e.ensures.refusal in
    record { value = both.0; out_after = both.1 }

pub put_record-requires : goal.put_record-requires
put_record-requires c = sym c.in_ok-length.ensures.refusal

pub returns : goal.returns
returns c =
    let a = c.args in
    let w = c.in_ok-length.ensures in
    let both = write_accepted a.s a.stripe.now a.lost.now a.out.now _ _ (sym w.refusal) w.ok c.put_record.ensures in
    record { value = both.0; out_after = both.1 }
