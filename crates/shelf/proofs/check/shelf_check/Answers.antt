-- `shelf_check` meets its contract: what it leaves is told by the answer of the check.
use mathlib.Core.Path.{refl, sym, ap, ◌∙◌}
use native.Mathlib.Omega.{arith}
use Rattle.stripe.specs.Refusal.{refusal_number}
use Rattle.std.specs.declared.result.Result.TheVariants.{Ok}
use Rattle.checking.specs.Check.{Refused, reported}
use Rattle.shelf.proofs.Checked.{leaves, named_within}
use Rattle.shelf.proofs.check.shelf_check.Goals as goal

pub overflow_cast-column : goal.overflow_cast-column
overflow_cast-column c =
    let o = c.in-Ok-Some in
    let told = ap reported (sym (o.is ∙ ap Ok o.field-0-is)) ∙ c.first_wrong.ensures in
    let n = named_within _ _ _ o.at.column o.at.place told in
    omega (arith, n.0, n.1)

pub overflow_cast-place : goal.overflow_cast-place
overflow_cast-place c =
    let o = c.in-Ok-Some in
    let told = ap reported (sym (o.is ∙ ap Ok o.field-0-is)) ∙ c.first_wrong.ensures in
    let n = named_within _ _ _ o.at.column o.at.place told in
    omega (arith, n.0, n.1)

pub returns-in-Err : goal.returns-in-Err
returns-in-Err c =
    let a = c.args in
    let left = leaves _ _ a.«data».now a.parity.now (Refused (refusal_number c.in-Err.no)) a.column.now a.place.now _ _ _
    c.shape_of-s.ensures c.in-Err.ensures (refl, (refl, refl)) in
    record { value = c.from-in-Err.ensures ∙ left.0; column_after = left.1.0; place_after = left.1.1 }
