-- A record mended, and what the program prints for a record (document 01, 'The mending program'). The record is read whole first, with
-- all of reading's refusals; then it is mended.
use Rattle.std.specs.Prelude.{ℕ, ◌%◌, ◌/◌, ◌≤◌, ◌<◌, ◌≡◌, cond, List, [], ◌∷◌, eqb, length, take, replicate}
use Rattle.stripe.specs.Shape.{stripe_length, no_shape}
use Rattle.record.specs.Reading.{Got, read_refusal, shape_read, count_of, lost_listed, columns_filled}
use Rattle.mending.specs.Mend.{Mended}
use Rattle.field.specs.Bytes.{over}
use Rattle.text.specs.Text.{stripe_text, refusal_text, text_room}

-- positions as pairs of bytes, low byte first
unfoldable pub pairs : List ℕ → List ℕ
pairs [] = []
pairs (e ∷ es) = e % 256 ∷ e / 256 ∷ pairs es

-- 65,536 zeros
unfoldable pub blank_stripe : List ℕ
blank_stripe = replicate 65536 0

-- the stripe that a record describes; what stands in its lost columns counts for nothing, here it is zeros
abbrev pub described : List ℕ → List ℕ
described bs = take (stripe_length (shape_read bs)) (columns_filled bs blank_stripe)

-- the outcome of a record with lent buffers of these lengths: the number v, and the mended stripe ys
pub record RecordMended (bs : List ℕ) (stripeRoom lostRoom v : ℕ) (ys : List ℕ) : Type 0 where
  pub unread : (read_refusal bs stripeRoom lostRoom ≡ 0 → ⊥) → (v ≡ read_refusal bs stripeRoom lostRoom) × (ys ≡ [])
  pub read_whole : read_refusal bs stripeRoom lostRoom ≡ 0 → Mended (shape_read bs) (pairs (lost_listed bs)) (described bs) v ys

-- what mending a record reports, which is what reading one does: a number, the shape and the number of lost columns
abbrev pub Answer : Type 0
Answer = Got

-- what is reported with a number: the shape and the number of lost columns, zeros with a refusal
abbrev pub answer_of : List ℕ → ℕ → Answer
answer_of bs v =
    cond (eqb v 0) (record { number = 0; shape = shape_read bs; lost = count_of bs })
    (record { number = v; shape = no_shape; lost = 0 })

-- what reading and mending leave in the buffers that they work in
pub record Worked (bs : List ℕ) (a : Answer) (xs es : List ℕ) : Type 0 where
  pub bytes : List ℕ
  pub outcome : RecordMended bs 65536 258 a.number bytes
  pub reported : a ≡ answer_of bs a.number
  pub stripe : a.number ≡ 0 → take (stripe_length (shape_read bs)) xs ≡ bytes
  pub list : a.number ≡ 0 → take (count_of bs) es ≡ lost_listed bs

-- the answer for a record with a lent buffer xs and a lent list es, which become xs' and es': the mended stripe and the lost positions
-- stand at their fronts; a refusal leaves both
pub record Answered (bs xs es : List ℕ) (a : Answer) (xs' es' : List ℕ) : Type 0 where
  pub bytes : List ℕ
  pub outcome : RecordMended bs (length xs) (length es) a.number bytes
  pub reported : a ≡ answer_of bs a.number
  pub stripe : xs' ≡ cond (eqb a.number 0) (over xs 0 bytes) xs
  pub list : es' ≡ cond (eqb a.number 0) (over es 0 (lost_listed bs)) es

-- what the program prints for a record
pub record TextOf (bs text : List ℕ) : Type 0 where
  pub number : ℕ
  pub bytes : List ℕ
  pub outcome : RecordMended bs 65536 258 number bytes
  pub lines : text ≡ cond (eqb number 0) (stripe_text (shape_read bs) (lost_listed bs) bytes) (refusal_text number)

-- the text stands at the front of out, which becomes out', and v is its length
pub record Front (bs out : List ℕ) (v : ℕ) (out' : List ℕ) : Type 0 where
  pub text : List ℕ
  pub program : TextOf bs text
  pub long : v ≡ length text
  pub bytes : out' ≡ over out 0 text

-- the text of a record written to out, or nothing where there is no room for any text
pub record Printed (bs out : List ℕ) (v : ℕ) (out' : List ℕ) : Type 0 where
  pub cramped : length out < text_room → (v ≡ 0) × (out' ≡ out)
  pub roomy : text_room ≤ length out → Front bs out v out'
