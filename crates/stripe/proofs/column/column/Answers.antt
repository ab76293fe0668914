-- `column` meets its contract: where nothing is refused, the column at a position is a part of the data or of the parity.
use Prim.Native.Nat.{◌-◌}
use mathlib.Core.Path.{◌≡◌, sym, ◌∙◌}
use native.Mathlib.Omega.{arith}
use lib.ListN.{length}
use Rattle.stripe.specs.Column.{lent_refusal}
use Rattle.stripe.proofs.Refused.{is_refused, is_accepted}
use Rattle.stripe.proofs.Lent.{lent, within, column_refused, column_data, column_parity, column_past}
use Rattle.stripe.proofs.column.column.Goals as goal
use Rattle.stripe.proofs.column.column.Goals.{Else-is_err}

pub returns-then-is_err : goal.returns-then-is_err
returns-then-is_err c = sym (column_refused _ _ _ _ (λ e. is_refused _ c.if-is_err.ensures.value (c.lent_refusal.ensures ∙ e)))

passed : (c : Else-is_err) → lent_refusal c.args.s (length c.args.«data».now)
    (length c.args.parity.now) ≡ 0
passed c = sym c.lent_refusal.ensures ∙ is_accepted _ c.if-is_err.ensures.value

pub part-requires : goal.part-requires
part-requires c =
    let a = c.args in
    let e = lent a.s (length a.«data».now) (length a.parity.now) (passed (goal.at.part-requires c).Else-is_err) in
    within a.at a.s.k a.s.l (length a.«data».now) c.if-at-k.true e.data_long

pub returns-then-at-k : goal.returns-then-at-k
returns-then-at-k c = c.part.ensures ∙ sym (column_data _ _ _ _ (passed (goal.at.returns-then-at-k c).Else-is_err) c.if-at-k.true)

pub part-requires-then-at-k-2 : goal.part-requires-then-at-k-2
part-requires-then-at-k-2 c =
    let a = c.args in
    let e = lent a.s (length a.«data».now) (length a.parity.now) (passed (goal.at.part-requires-then-at-k-2 c).Else-is_err) in
    within (a.at - a.s.k) a.s.r a.s.l (length a.parity.now) c.if-at-k-2.true e.parity_long

pub returns-then-at-k-2 : goal.returns-then-at-k-2
returns-then-at-k-2 c = c.part-then-at-k-2.ensures
    ∙ sym (column_parity _ _ _ _ (passed (goal.at.returns-then-at-k-2 c).Else-is_err) (omega arith) (omega arith))

pub returns : goal.returns
returns c = sym (column_past _ _ _ _ (passed (goal.at.returns c).Else-is_err) (omega arith))
