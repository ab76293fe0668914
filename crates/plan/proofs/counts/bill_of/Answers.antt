-- `bill_of` meets its contract: each sum is made within its own kind, and neither reaches the cap.
use mathlib.Core.Path.{sym, ap₂, ◌∙◌}
use Prim.Native.Nat.{ℕ, ◌+◌}
use Rattle.plan.specs.Counts.{bill_of, capped}
use Rattle.plan.proofs.Bounds.{access_fits, bandwidth_fits}
use Rattle.plan.proofs.Capped.{capped_is, same_bill}
use Rattle.plan.proofs.counts.bill_of.Goals as goal

pub returns : goal.returns
unfolding bill_of
returns c =
    let a = c.args in
    let columns = c.columns_read-columns.ensures in
    let new-columns = c.columns_written-new_columns.ensures in
    let bytes = c.bytes_read-bytes.ensures in
    let new-bytes = c.bytes_written-new_bytes.ensures in
    same_bill _ (bill_of a.s a.stripes a.f)
    columns
    new-columns
    (c.plus.ensures ∙ ap₂ (λ (x y : ℕ). capped (x + y)) columns new-columns ∙ sym (capped_is _ (access_fits a.s a.stripes a.f)))
    bytes
    new-bytes
    (c.plus-2.ensures ∙ ap₂ (λ (x y : ℕ). capped (x + y)) bytes new-bytes ∙ sym (capped_is _ (bandwidth_fits a.s a.stripes a.f)))
