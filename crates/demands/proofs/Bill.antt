-- Document 02, request 2, as theorems on the calls. "The plan must report read, written and sum for bytes, and the same for columns: written are
-- f*L bytes and f columns. Demand 3's reading volume stays the read figure."
use Prim.Native.Nat.{ℕ, ◌+◌, ◌*◌}
use mathlib.Core.Path.{◌≡◌, sym, ap, ap₂, ◌∙◌}
use mathlib.Core.List.{List}
use lib.ListN.{length}
use Rattle.stripe.specs.declared.Shape.{Shape}
use Rattle.plan.specs.Plan.{conversion_bandwidth, access_cost}
use Rattle.plan.specs.Cost.{access_needed, transfer_needed}
use Rattle.plan.proofs.Foldable.{prepared_b}
use Rattle.plan.proofs.Costs.{columns_written_lem, bytes_written_lem, plain_access, plain_transfer, prepared_access, prepared_transfer}
use Rattle.fold.proofs.Laws.{fold_length}
use Rattle.fold.proofs.Verdict.{verdict_passed, filled}
use Rattle.shelf.specs.Shelf.{shape_of}
use Rattle.demands.specs.Calls.{Folds, PlanRefuses, PlanColumns, PlanBytes}
use Rattle.demands.specs.Calls.{PlanColumnsWritten, PlanColumnsSum, PlanBytesWritten, PlanBytesSum}

module _ (k r t l n f : ℕ) where
  abbrev asked : Shape
  asked = shape_of k r t l

  -- The sums reported are exact, whatever the six numbers are: neither is capped.
  pub request_2_columns_sum : (v w x : ℕ) → PlanColumns k r t l n f v → PlanColumnsWritten k r t l n f w → PlanColumnsSum k r t l n f x → x ≡ v + w
  request_2_columns_sum v w x p q a = a ∙ sym (ap₂ ◌+◌ p q)

  pub request_2_bytes_sum : (v w x : ℕ) → PlanBytes k r t l n f v → PlanBytesWritten k r t l n f w → PlanBytesSum k r t l n f x → x ≡ v + w
  request_2_bytes_sum v w x p q a = a ∙ sym (ap₂ ◌+◌ p q)

  -- Written are f columns and f*L bytes.
  pub request_2_written : PlanRefuses k r t l n f 0 → (v w : ℕ) → PlanColumnsWritten k r t l n f v → PlanBytesWritten k r t l n f w
      → (v ≡ f) × (w ≡ f * l)
  request_2_written planned v w p q =
      (p ∙ columns_written_lem asked n f (sym planned), q ∙ bytes_written_lem asked n f (sym planned))

  -- A fold that is done was handed as many bytes as are read, and the parity that it leaves has as many as are written: the sum is what moved.
  pub request_2_moved : (xs ps ps' : List ℕ) → Folds k r t l n f xs ps 0 ps' → (v w x : ℕ)
      → PlanBytes k r t l n f v → PlanBytesWritten k r t l n f w → PlanBytesSum k r t l n f x
      → (v ≡ length xs) × ((w ≡ length ps') × (x ≡ length xs + length ps'))
  request_2_moved xs ps ps' done v w x p q a =
      let passed = verdict_passed asked n f (length xs) (length ps) (sym done.0) in
      let read : v ≡ length xs = p ∙ sym passed.1.0 in
      let left : length ps' ≡ f * l = ap length (done.1 ∙ sym (filled asked n f xs ps (sym done.0))) ∙ fold_length asked n f xs passed.0 in
      let written : w ≡ length ps' = q ∙ bytes_written_lem asked n f passed.0 ∙ sym left in
      (read, (written, request_2_bytes_sum v w x p q a ∙ ap₂ ◌+◌ read written))

  module _ (planned : PlanRefuses k r t l n f 0) where
    -- The sum of columns is the access cost (000, II-B). Plain stripes: 003, Theorem 15. Prepared stripes: every column of theirs, and the new ones.
    pub request_2_access : (v : ℕ) → PlanColumnsSum k r t l n f v
        → (access_cost asked n f ≡ v)
        × ((t ≡ 0 → v ≡ access_needed n k r f)
        × ((t ≡ 0 → ⊥) → v ≡ n * (k + r) + f))
    request_2_access v p = (
      sym p,
      (
        λ e. p ∙ plain_access asked n f (sym planned) e,
        λ ne. p ∙ prepared_access asked n f (sym planned) (prepared_b asked n f (sym planned) ne),
      ),
    )

    -- The sum of bytes is the conversion bandwidth (000, Definition 2). Plain stripes: L bytes for each column of the access cost. Prepared stripes:
    -- 002, formula (1), in columns of L bytes, both sides times f so that no fraction is left.
    pub request_2_bandwidth : (w : ℕ) → PlanBytesSum k r t l n f w
        → (conversion_bandwidth asked n f ≡ w)
        × ((t ≡ 0 → w ≡ access_needed n k r f * l)
        × ((t ≡ 0 → ⊥) → w * f ≡ transfer_needed n k r f * l))
    request_2_bandwidth w q = (
      sym q,
      (
        λ e. q ∙ plain_transfer asked n f (sym planned) e,
        λ ne. ap (λ (x : ℕ). x * f) q ∙ prepared_transfer asked n f (sym planned) (prepared_b asked n f (sym planned) ne),
      ),
    )
