-- `shelf_write_record` meets its contract: the shape is that of the four numbers, and the outcome that of writing.
use mathlib.Core.Path.{refl, subst, ◌∙◌}
use native.Mathlib.Omega.{arith}
use Rattle.stripe.specs.declared.Shape.{Shape}
use Rattle.stripe.specs.Refusal.{refusal_number}
use Rattle.stripe.proofs.Refused.{refused_some}
use Rattle.shelf.proofs.Recorded.{Wrote, write_refused, write_done}
use Rattle.shelf.proofs.records.shelf_write_record.Goals as goal

pub returns-in-Err : goal.returns-in-Err
returns-in-Err c =
    let a = c.args in
    let w = c.in-Err.ensures in
    let some = refused_some c.in-Err.no in
    let both = subst (λ (s : Shape). Wrote s a.stripe.now a.lost.now a.out.now a.length.now (refusal_number c.in-Err.no) c.write_record.new.out
    a.length.now)
    c.shape_of-s.ensures
    (write_refused _ a.stripe.now a.lost.now a.out.now a.length.now _ _ w.value w.out_after (λ z. omega (arith, some, z))) in
    record { value = c.from.ensures ∙ both.0; out_after = both.1.0; length_after = both.1.1 }

pub returns-in-Ok : goal.returns-in-Ok
returns-in-Ok c =
    let a = c.args in
    let w = c.in-Ok.ensures in
    let both = subst (λ (s : Shape). Wrote s a.stripe.now a.lost.now a.out.now a.length.now 0 c.write_record.new.out c.in-Ok.written)
    c.shape_of-s.ensures
    (write_done _ a.stripe.now a.lost.now a.out.now a.length.now _ _ w.value w.out_after refl) in
    record { value = both.0; out_after = both.1.0; length_after = both.1.1 }
