-- Reading a record front to back (document 01, 'Refusal numbers'): each number as it comes, after the fourth the shape and the stripe's
-- length, then the lost count and positions, then the columns. Of what cannot be read the value is 0.
use Rattle.std.specs.Prelude.{ℕ, zero, suc, ◌+◌, ◌-◌, ◌*◌, Bool, cond, ◌&&◌, List, [], ◌∷◌, leb, ltb, eqb, length, drop}
use Rattle.std.specs.declared.result.Result.{Result}
use Rattle.std.specs.declared.result.Result.TheVariants.{Ok, Err}
use Rattle.field.specs.Bytes.{over}
use Rattle.stripe.specs.declared.Shape.{Shape}
use Rattle.stripe.specs.Shape.{shape_refusal, columns, stripe_length, no_shape}
use Rattle.stripe.specs.declared.refusal.Refusal.{Refusal}
use Rattle.stripe.specs.Refusal.{refusal_number}
use Rattle.record.specs.declared.read.Read.{Read}
use Rattle.record.specs.declared.read.Head.{Head}
use Rattle.record.specs.declared.read.Lawful.{Lawful}
use Rattle.number.specs.Number.{Standing, number_at, number_refusal, value_of, next_of}
use Rattle.record.specs.Layout.{restored}

-- the first refusal of several, 0 where there is none
unfoldable pub first_of : List ℕ → ℕ
first_of [] = 0
first_of (zero ∷ xs) = first_of xs
first_of (suc x ∷ xs) = suc x

-- a refusal given exactly when a test fails
abbrev pub unless : Bool → ℕ → ℕ
unless b x = cond b 0 x

-- the four numbers of the shape, and the lost count, each after the one before
abbrev pub first_number : List ℕ → Standing
first_number s = number_at s 0

abbrev pub second_number : List ℕ → Standing
second_number s = number_at s (next_of (first_number s))

abbrev pub third_number : List ℕ → Standing
third_number s = number_at s (next_of (second_number s))

abbrev pub fourth_number : List ℕ → Standing
fourth_number s = number_at s (next_of (third_number s))

abbrev pub count_number : List ℕ → Standing
count_number s = number_at s (next_of (fourth_number s))

abbrev pub shape_read : List ℕ → Shape
shape_read s =
    record { k = value_of (first_number s); r = value_of (second_number s); t = value_of (third_number s); l = value_of (fourth_number s) }

-- the refusal of a described stripe: its shape, then its bytes above 65,536
unfoldable pub stripe_refusal : Shape → ℕ
stripe_refusal s = first_of (shape_refusal s ∷ unless (leb (stripe_length s) 65536) 5 ∷ [])

-- the refusal of the front of a record: each number, then what they describe
unfoldable pub head_refusal : List ℕ → ℕ
head_refusal s =
    first_of (number_refusal (first_number s)
    ∷ number_refusal (second_number s)
    ∷ number_refusal (third_number s)
    ∷ number_refusal (fourth_number s)
    ∷ stripe_refusal (shape_read s)
    ∷ [])

-- the refusal of what is read as a position: no number, or not at least `least` and below n
abbrev pub position_refusal : Standing → ℕ → ℕ → ℕ
position_refusal g least n = first_of (number_refusal g ∷ unless (leb least (value_of g) && ltb (value_of g) n) 6 ∷ [])

-- each of m positions in turn, each above the one before
unfoldable pub positions_refusal : List ℕ → ℕ → ℕ → ℕ → ℕ → ℕ
positions_refusal s n zero least at = 0
positions_refusal s n (suc m) least at =
    first_of (position_refusal (number_at s at) least n ∷ positions_refusal s n m (value_of (number_at s at) + 1) (next_of (number_at s at)) ∷ [])

-- m positions, and the place after them
unfoldable pub positions_at : List ℕ → ℕ → ℕ → List ℕ
positions_at s zero at = []
positions_at s (suc m) at = value_of (number_at s at) ∷ positions_at s m (next_of (number_at s at))

unfoldable pub after_positions : List ℕ → ℕ → ℕ → ℕ
after_positions s zero at = at
after_positions s (suc m) at = after_positions s m (next_of (number_at s at))

-- the refusal of the bytes that follow the positions: 9 where the columns are cut, 10 where bytes are left over
abbrev pub columns_refusal : ℕ → ℕ → ℕ
columns_refusal have want = cond (ltb have want) 9 (unless (leb have want) 10)

-- the refusal of what follows the shape: the lost count g, then its positions, then the columns
abbrev pub rest_refusal : List ℕ → Shape → Standing → ℕ
rest_refusal s sh g =
    first_of (number_refusal g
    ∷ unless (leb (value_of g) (columns sh)) 6
    ∷ positions_refusal s (columns sh) (value_of g) 0 (next_of g)
    ∷ columns_refusal (length s - after_positions s (value_of g) (next_of g)) ((columns sh - value_of g) * sh.l)
    ∷ [])

-- the refusal of a record's bytes
unfoldable pub content_refusal : List ℕ → ℕ
content_refusal s = first_of (head_refusal s ∷ rest_refusal s (shape_read s) (count_number s) ∷ [])

-- how many columns are lost, which, and where the surviving ones start
abbrev pub count_of : List ℕ → ℕ
count_of s = value_of (count_number s)

abbrev pub lost_listed : List ℕ → List ℕ
lost_listed s = positions_at s (count_of s) (next_of (count_number s))

abbrev pub columns_start : List ℕ → ℕ
columns_start s = after_positions s (count_of s) (next_of (count_number s))

-- the refusal of reading: first 5 for the record's own length, the lent buffer and the list
unfoldable pub read_refusal : List ℕ → ℕ → ℕ → ℕ
read_refusal s stripeRoom lostRoom =
    first_of (unless (leb (length s) 65536) 5 ∷ unless (eqb stripeRoom 65536) 5 ∷ unless (eqb lostRoom 258) 5 ∷ content_refusal s ∷ [])

-- what reading reports: 0, the shape and the number of lost columns; or a refusal, and zeros
pub record Got : Type 0 where
  pub number : ℕ
  pub shape : Shape
  pub lost : ℕ

abbrev pub reported : Result Read Refusal → Got
reported (Ok x) = record { number = 0; shape = x.shape; lost = x.lost }
reported (Err e) = record { number = refusal_number e; shape = no_shape; lost = 0 }

-- what reading reports: the shape and the number lost, or a refusal
abbrev pub got_of : List ℕ → ℕ → ℕ → Got
got_of s stripeRoom lostRoom =
    cond (eqb (read_refusal s stripeRoom lostRoom) 0) (record { number = 0; shape = shape_read s; lost = count_of s })
    (record { number = read_refusal s stripeRoom lostRoom; shape = no_shape; lost = 0 })

-- the surviving columns put in their places of a stripe buffer, and the lost positions at the front of a list
abbrev pub columns_filled : List ℕ → List ℕ → List ℕ
columns_filled s xs = restored (shape_read s).l (lost_listed s) 0 (columns (shape_read s)) (drop (columns_start s) s) xs

abbrev pub positions_filled : List ℕ → List ℕ → List ℕ
positions_filled s es = over es 0 (lost_listed s)

-- the lent buffer and the lent list after reading
abbrev pub stripe_read : List ℕ → List ℕ → ℕ → List ℕ
stripe_read s xs lostRoom = cond (eqb (read_refusal s (length xs) lostRoom) 0) (columns_filled s xs) xs

abbrev pub lost_read : List ℕ → ℕ → List ℕ → List ℕ
lost_read s stripeRoom es = cond (eqb (read_refusal s stripeRoom (length es)) 0) (positions_filled s es) es

-- what the functions that judge read: the shape and the place after it, and a lawful record
abbrev pub head_read : List ℕ → Head
head_read s = record { shape = shape_read s; next = next_of (fourth_number s) }

abbrev pub lawful_of : List ℕ → Lawful
lawful_of s = record { shape = shape_read s; lost = count_of s; first = next_of (count_number s); end = columns_start s }
