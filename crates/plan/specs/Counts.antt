-- Sums of counts (document 01, 'Folding') and the bill of a fold (document 02, request 2). What is counted stands in `Plan`.
use Rattle.std.specs.Prelude.{ℕ, ◌-◌, ◌^◌, cond, ltb}
use Rattle.stripe.specs.declared.Shape.{Shape}
use Rattle.plan.specs.declared.counts.Bill.{Bill}
use Rattle.plan.specs.Plan.{columns_read, columns_written, access_cost, bytes_read, bytes_written, conversion_bandwidth}

-- a sum of counts, or 2^64-1 where it does not fit
abbrev pub capped : ℕ → ℕ
capped n = cond (ltb n (2 ^ 64)) n (2 ^ 64 - 1)

-- what a fold costs, columns and bytes apart: read, written, and the sum
unfoldable pub bill_of : Shape → ℕ → ℕ → Bill
bill_of s n f =
    record {
      columns =
          record {
            read = record { 0 = columns_read s n f };
            written = record { 0 = columns_written s n f };
            sum = record { 0 = access_cost s n f };
          };
      bytes =
          record {
            read = record { 0 = bytes_read s n f };
            written = record { 0 = bytes_written s n f };
            sum = record { 0 = conversion_bandwidth s n f };
          };
    }
