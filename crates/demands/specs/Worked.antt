-- The starred examples of document 01, 'Worked stripes': one list, and what it means that an example holds. Two further lists are
-- our own: with r above 3, and the bills of folds.
use Rattle.std.specs.Prelude.{◌≡◌, List, [], ◌∷◌, ℕ, length}
use Rattle.field.specs.Field.{◌⊗◌, gpow}
use Rattle.stripe.specs.declared.Shape.{Shape}
use Rattle.stripe.specs.Stripe.{parity}
use Rattle.mending.specs.Mend.{Mended}
use Rattle.plan.specs.Plan.{plan, columns_read, columns_written, access_cost, bytes_read, bytes_written, conversion_bandwidth}
use Rattle.fold.specs.Fold.{fold_of, cut_out}
use Rattle.number.specs.Number.{written}
use Rattle.record.specs.Reading.{read_refusal}

-- the shape of four numbers
abbrev pub shape : ℕ → ℕ → ℕ → ℕ → Shape
shape k r t l = record { k = k; r = r; t = t; l = l }

pub data Case : Type 0 where
  -- a times b is c
  Product : ℕ → ℕ → ℕ → Case
  -- g^n is c
  Power : ℕ → ℕ → Case
  -- the data of a stripe, columns in order, and its parity
  Parity : Shape → List ℕ → List ℕ → Case
  -- whole stripes folded to f parity columns, the wide parity, and how many bytes and columns the plan reads
  Fold : Shape → ℕ → List (List ℕ) → List ℕ → ℕ → ℕ → Case
  -- a fold of n stripes to f parity columns: columns read, written and their sum, and so the bytes
  Bill : Shape → ℕ → ℕ → ℕ → ℕ → ℕ → ℕ → ℕ → ℕ → Case
  -- the lost positions of a stripe, as pairs of bytes, and the stripe; the answer of mending, and the bytes that are left
  Mend : Shape → List ℕ → List ℕ → ℕ → List ℕ → Case
  -- a number of a record, and its bytes
  Written : ℕ → List ℕ → Case
  -- the bytes of a record, and their refusal by reading
  Read : List ℕ → ℕ → Case

unfoldable pub Holds : Case → Type 0
Holds (Product a b c) = a ⊗ b ≡ c
Holds (Power n c) = gpow n ≡ c
Holds (Parity s ds ps) = parity s ds ≡ ps
Holds (Fold s f zss ps b c) =
    (fold_of s (length zss) f (cut_out s zss (plan s (length zss) f)) ≡ ps)
    × (bytes_read s (length zss) f ≡ b)
    × (columns_read s (length zss) f ≡ c)
Holds (Bill s n f a b c x y z) =
    ((columns_read s n f ≡ a) × (columns_written s n f ≡ b) × (access_cost s n f ≡ c))
    × ((bytes_read s n f ≡ x) × (bytes_written s n f ≡ y) × (conversion_bandwidth s n f ≡ z))
Holds (Mend s ls xs v ys) = Mended s ls xs v ys
Holds (Written n xs) = written n ≡ xs
Holds (Read xs v) = read_refusal xs 65536 258 ≡ v

unfoldable pub AllHold : List Case → Type 0
AllHold [] = Unit {0}
AllHold (c ∷ cs) = Holds c × AllHold cs

-- the two plain stripes, whole, and the two prepared ones
abbrev pub pair : List (List ℕ)
pair = (0x01 ∷ 0x02 ∷ 0x03 ∷ 0x05 ∷ 0x09 ∷ []) ∷ (0x03 ∷ 0x04 ∷ 0x07 ∷ 0x0B ∷ 0x13 ∷ []) ∷ []

abbrev pub prepared_pair : List (List ℕ)
prepared_pair = (0x01 ∷ 0x03 ∷ 0x02 ∷ 0x04 ∷ 0x03 ∷ 0x02 ∷ []) ∷ (0x05 ∷ 0x07 ∷ 0x06 ∷ 0x08 ∷ 0x03 ∷ 0x06 ∷ []) ∷ []

-- a stripe with a stale column 1, and what it is mended to where positions 0 and 3 are lost
abbrev pub stale : List ℕ
stale = 0x05 ∷ 0x06 ∷ 0x03 ∷ 0x04 ∷ 0x04 ∷ 0x29 ∷ []

abbrev pub accepted : List ℕ
accepted = 0xD7 ∷ 0x06 ∷ 0x03 ∷ 0xD6 ∷ 0x04 ∷ 0x29 ∷ []

unfoldable pub worked : List Case
worked =
    Product 0x02 0x80 0x1D
    ∷ Power 255 0x01
    ∷ Parity (shape 2 3 0 1) (0x01 ∷ 0x02 ∷ []) (0x03 ∷ 0x05 ∷ 0x09 ∷ [])
    ∷ Parity (shape 2 3 0 1) (0x03 ∷ 0x04 ∷ []) (0x07 ∷ 0x0B ∷ 0x13 ∷ [])
    ∷ Parity (shape 2 1 2 2) (0x01 ∷ 0x03 ∷ 0x02 ∷ 0x04 ∷ []) (0x03 ∷ 0x02 ∷ [])
    ∷ Parity (shape 2 1 2 2) (0x05 ∷ 0x07 ∷ 0x06 ∷ 0x08 ∷ []) (0x03 ∷ 0x06 ∷ [])
    ∷ Fold (shape 2 3 0 1) 2 pair (0x04 ∷ 0x29 ∷ []) 4 4
    ∷ Fold (shape 2 3 0 1) 3 pair (0x04 ∷ 0x29 ∷ 0x24 ∷ []) 4 4
    ∷ Fold (shape 2 1 2 2) 2 prepared_pair (0x00 ∷ 0x08 ∷ 0x21 ∷ 0x57 ∷ []) 8 6
    ∷ Mend (shape 4 2 0 1) (0 ∷ 0 ∷ []) stale 8 stale
    ∷ Mend (shape 4 2 0 1) (0 ∷ 0 ∷ 3 ∷ 0 ∷ []) stale 0 accepted
    ∷ Written 300 (0xAC ∷ 0x02 ∷ [])
    ∷ Read (0x80 ∷ 0x00 ∷ []) 9
    ∷ Read [] 9
    ∷ []

-- ---- our own: four parity columns, given by check equations (document 02, request 6)

-- two stripes with k >= r, whole, and two with k < r
abbrev pub points_pair : List (List ℕ)
points_pair =
    (0x01 ∷ 0x02 ∷ 0x03 ∷ 0x04 ∷ 0x60 ∷ 0x9B ∷ 0x1C ∷ 0xE3 ∷ []) ∷ (0x05 ∷ 0x06 ∷ 0x07 ∷ 0x08 ∷ 0x77 ∷ 0x00 ∷ 0x4B ∷ 0x30 ∷ []) ∷ []

abbrev pub narrow_pair : List (List ℕ)
narrow_pair = (0x01 ∷ 0x02 ∷ 0xC9 ∷ 0x98 ∷ 0xC1 ∷ 0x93 ∷ []) ∷ (0x03 ∷ 0x04 ∷ 0x80 ∷ 0x1B ∷ 0xE7 ∷ 0x7B ∷ []) ∷ []

unfoldable pub ours : List Case
ours =
    Parity (shape 4 4 0 1) (0x01 ∷ 0x02 ∷ 0x03 ∷ 0x04 ∷ []) (0x60 ∷ 0x9B ∷ 0x1C ∷ 0xE3 ∷ [])
    ∷ Parity (shape 4 4 0 1) (0x05 ∷ 0x06 ∷ 0x07 ∷ 0x08 ∷ []) (0x77 ∷ 0x00 ∷ 0x4B ∷ 0x30 ∷ [])
    ∷ Parity (shape 2 4 0 1) (0x01 ∷ 0x02 ∷ []) (0xC9 ∷ 0x98 ∷ 0xC1 ∷ 0x93 ∷ [])
    ∷ Parity (shape 2 4 0 1) (0x03 ∷ 0x04 ∷ []) (0x80 ∷ 0x1B ∷ 0xE7 ∷ 0x7B ∷ [])
    ∷ Fold (shape 4 4 0 1) 4 points_pair (0x7C ∷ 0x16 ∷ 0xAB ∷ 0xC9 ∷ []) 8 8
    ∷ Fold (shape 2 4 0 1) 4 narrow_pair (0x60 ∷ 0x9B ∷ 0x1C ∷ 0xE3 ∷ []) 4 4
    ∷ []

-- ---- our own: bills (document 02, request 2). Kind A, by rows and with r above 3, kind B, kind C, and a fold that is refused

unfoldable pub bills : List Case
bills =
    Bill (shape 4 2 0 4096) 3 2 6 2 8 24576 8192 32768
    ∷ Bill (shape 4 4 0 1) 2 4 8 4 12 8 4 12
    ∷ Bill (shape 2 1 2 2) 2 2 6 2 8 8 4 12
    ∷ Bill (shape 4 2 0 512) 3 3 12 3 15 6144 1536 7680
    ∷ Bill (shape 4 2 0 512) 1 2 0 0 0 0 0 0
    ∷ []
