-- Writing a record (document 01, 'Stripe records' and 'Refusal numbers').
use Rattle.std.specs.Prelude.{ℕ, ◌≤◌, ◌≡◌, cond, List, [], ◌∷◌, leb, eqb, length}
use Rattle.stripe.specs.declared.Shape.{Shape}
use Rattle.stripe.specs.Shape.{shape_refusal, columns, stripe_length}
use Rattle.stripe.specs.Stripe.{Ascending, ascending}
use Rattle.std.specs.declared.result.Result.{Result}
use Rattle.std.specs.declared.result.Result.TheVariants.{Ok, Err}
use Rattle.stripe.specs.declared.refusal.Refusal.{Refusal}
use Rattle.stripe.specs.Refusal.{refusal_number}
use Rattle.field.specs.Bytes.{over}
use Rattle.record.specs.Layout.{record_of}
use Rattle.record.specs.Reading.{first_of, unless, stripe_refusal}

-- 1, 2; 5 for the stripe; 6; then 5 for the record's own length and the output, which depend on the list
unfoldable pub write_refusal : Shape → List ℕ → List ℕ → ℕ → ℕ
write_refusal s xs es room =
    first_of (stripe_refusal s
    ∷ unless (eqb (length xs) (stripe_length s)) 5
    ∷ unless (ascending 0 (columns s) es) 6
    ∷ unless (leb (length (record_of s es xs)) 65536) 5
    ∷ unless (leb (length (record_of s es xs)) room) 5
    ∷ [])

-- what writing reports: 0 and the record's length; or a refusal, and 0
pub record Written : Type 0 where
  pub number : ℕ
  pub length : ℕ

abbrev pub reported : Result ℕ Refusal → Written
reported (Ok n) = record { number = 0; length = n }
reported (Err e) = record { number = refusal_number e; length = 0 }

-- what writing reports: the record's length, or a refusal
abbrev pub written_of : Shape → List ℕ → List ℕ → ℕ → Written
written_of s xs es room =
    cond (eqb (write_refusal s xs es room) 0) (record { number = 0; length = length (record_of s es xs) })
    (record { number = write_refusal s xs es room; length = 0 })

-- the lent buffer after writing: the record at its front
abbrev pub out_written : Shape → List ℕ → List ℕ → List ℕ → List ℕ
out_written s xs es out = cond (eqb (write_refusal s xs es (length out)) 0) (over out 0 (record_of s es xs)) out

-- the bytes of some record: an allowed shape, at most 65,536 bytes of stripe, lost positions ascending and below n
pub record LaidOut (s : List ℕ) : Type 0 where
  pub shape : Shape
  pub lost : List ℕ
  pub stripe : List ℕ
  pub allowed : shape_refusal shape ≡ 0
  pub short : stripe_length shape ≤ 65536
  pub ascending : Ascending 0 (columns shape) lost
  pub exact : length stripe ≡ stripe_length shape
  pub bytes : s ≡ record_of shape lost stripe
