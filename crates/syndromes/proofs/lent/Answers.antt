-- `lent` meets its contract: each test decides one field of `Lent`.
use mathlib.Core.Path.{sym, ◌∙◌}
use mathlib.Core.Logic.{inl}
use native.Mathlib.Omega.{arith}
use Rattle.stripe.proofs.Allowed.{allowed, few_by_rows}
use Rattle.stripe.proofs.Refused.{is_refused, is_accepted}
use Rattle.syndromes.proofs.Judged.{says_yes, says_no, not_by_rows, not_prepared, column_says}
use Rattle.syndromes.proofs.lent.Goals as goal

pub returns-then-is_err : goal.returns-then-is_err
returns-then-is_err c = says_no _ (λ h. is_refused _ c.if-is_err.ensures.value (c.refusal.ensures ∙ h.shape))

pub returns-then-r-gt-MOST_ROWS : goal.returns-then-r-gt-MOST_ROWS
returns-then-r-gt-MOST_ROWS c = says_no _ (not_by_rows _ _ _ _ c.if-r-gt-MOST_ROWS.true)

pub overflow_add-k : goal.overflow_add-k
overflow_add-k c =
    let f = allowed c.args.s (sym c.refusal.ensures ∙ is_accepted _ c.if-is_err.ensures.value) in
    omega (arith, f.data_most, f.parity_most)

pub overflow_mul-k : goal.overflow_mul-k
overflow_mul-k c =
    let f = allowed c.args.s (sym c.refusal.ensures ∙ is_accepted _ c.if-is_err.ensures.value) in
    omega (arith, f.stripe-length)

pub returns-then-d-k : goal.returns-then-d-k
returns-then-d-k c = says_no _ (λ h. c.if-d-k.true h.long)

pub returns-then-p-r : goal.returns-then-p-r
returns-then-p-r c = says_no _ (λ h. c.if-p-r.true h.room)

pub returns-then-x-eq0 : goal.returns-then-x-eq0
returns-then-x-eq0 c =
    says_yes _ record {
      shape = sym c.refusal.ensures ∙ is_accepted _ c.if-is_err.ensures.value;
      rows = few_by_rows _ c.if-r-gt-MOST_ROWS.false;
      long = c.if-d-k.false;
      room = c.if-p-r.false;
      apart = inl c.if-x-eq0.true;
    }

pub returns-then-s-ne0 : goal.returns-then-s-ne0
returns-then-s-ne0 c = says_no _ (not_prepared _ _ _ _ c.if-x-eq0.false c.if-s-ne0.true)

pub returns : goal.returns
returns c =
    column_says _ _ _ _ c.if-x-eq0.false
    (sym c.refusal.ensures ∙ is_accepted _ c.if-is_err.ensures.value)
    (few_by_rows _ c.if-r-gt-MOST_ROWS.false)
    c.if-d-k.false c.if-p-r.false c.if-s-ne0.false
