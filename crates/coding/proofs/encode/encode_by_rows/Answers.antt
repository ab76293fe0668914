-- `encode_by_rows` meets its contract: too many parity columns and a refusal leave the parity as it was.
use mathlib.Core.Path.{◌≡◌, sym, ◌∙◌}
use lib.ListN.{length}
use Rattle.stripe.specs.Column.{lent_refusal}
use Rattle.stripe.proofs.Allowed.{few_by_rows}
use Rattle.stripe.proofs.Refused.{is_refused, is_accepted}
use Rattle.coding.proofs.Encoded.{encoded_refused, encoded_done, encoded_by_rows_lem, encoded_too_many}
use Rattle.coding.proofs.encode.encode_by_rows.Goals as goal
use Rattle.coding.proofs.encode.encode_by_rows.Goals.{Else-is_err}

pub returns-then-s-gt-MOST_ROWS : goal.returns-then-s-gt-MOST_ROWS
returns-then-s-gt-MOST_ROWS c =
    let a = c.args in
    encoded_too_many a.s a.«data».now a.parity.now c.if-s-gt-MOST_ROWS.true

pub returns-then-is_err : goal.returns-then-is_err
returns-then-is_err c =
    let a = c.args in
    encoded_refused a.s a.«data».now a.parity.now (λ z. is_refused _ c.if-is_err.ensures.value (c.lent_refusal.ensures ∙ z))
    ∙ sym (encoded_by_rows_lem a.s a.«data».now a.parity.now c.if-s-gt-MOST_ROWS.false)

passed : (c : Else-is_err) → lent_refusal c.args.s (length c.args.«data».now) (length c.args.parity.now) ≡ 0
passed c = sym c.lent_refusal.ensures ∙ is_accepted _ c.if-is_err.ensures.value

pub fill_by_rows-requires : goal.fill_by_rows-requires
fill_by_rows-requires c = (passed (goal.at.fill_by_rows-requires c).Else-is_err, few_by_rows c.args.s c.if-s-gt-MOST_ROWS.false)

pub returns : goal.returns
returns c =
    let a = c.args in
    c.fill_by_rows.ensures
    ∙ encoded_done a.s a.«data».now a.parity.now (passed (goal.at.returns c).Else-is_err)
    ∙ sym (encoded_by_rows_lem a.s a.«data».now a.parity.now c.if-s-gt-MOST_ROWS.false)
