-- Shapes: the numbers k, r, t and L of a stripe, and which are allowed (document 01, 'Stripes', the table).
use Rattle.std.specs.Prelude.{ℕ, ◌+◌, ◌*◌, ◌%◌, Bool, cond, ◌&&◌, ◌||◌, leb, ltb, eqb}
use Rattle.stripe.specs.declared.Shape.{Shape}

-- the most data columns
abbrev pub most_data : ℕ
most_data = 255

-- the most parity columns whose parity is by rows: any k columns of more rows would not determine a codeword
abbrev pub most_rows : ℕ
most_rows = 3

-- the most parity columns of a stripe: beyond `most_rows` they are given by check equations
abbrev pub most_parity : ℕ
most_parity = 16

-- the most points of columns by check equations: there are no more bytes but 0
abbrev pub most_points : ℕ
most_points = 255

-- the most columns of a stripe
abbrev pub most_columns : ℕ
most_columns = most_data + most_rows

-- the most bytes of a column
abbrev pub most_length : ℕ
most_length = 4096

-- the most bytes of all parity columns by rows, and of all parity columns
abbrev pub most_rows_length : ℕ
most_rows_length = most_rows * most_length

abbrev pub most_parity_length : ℕ
most_parity_length = most_parity * most_length

-- k is 1 to 255
abbrev pub data_allowed : ℕ → Bool
data_allowed k = leb 1 k && leb k most_data

-- r is 1 to 16
abbrev pub parity_allowed : ℕ → Bool
parity_allowed r = leb 1 r && leb r most_parity

-- where r is above 3, k+r is at most 255
abbrev pub points_allowed : ℕ → ℕ → Bool
points_allowed k r = leb r most_rows || leb (k + r) most_points

-- t is 0, or r < t <= 3 with t <= k
abbrev pub mark_allowed : ℕ → ℕ → ℕ → Bool
mark_allowed k r t = eqb t 0 || (ltb r t && leb t most_rows && leb t k)

-- L is 1 to 4,096, and divisible by t if t is not 0
abbrev pub length_allowed : ℕ → ℕ → Bool
length_allowed t l = leb 1 l && leb l most_length && (eqb t 0 || eqb (l % t) 0)

-- the refusal of a shape: 1 for k, r or t, 2 for L, 0 for none
unfoldable pub shape_refusal : Shape → ℕ
shape_refusal s =
    cond (data_allowed s.k && parity_allowed s.r && points_allowed s.k s.r && mark_allowed s.k s.r s.t)
    (cond (length_allowed s.t s.l) 0 2) 1

-- the shape of no columns, which is refused; it stands where there is no shape to report
abbrev pub no_shape : Shape
no_shape = record { k = 0; r = 0; t = 0; l = 0 }

-- n, the number of columns
abbrev pub columns : Shape → ℕ
columns s = s.k + s.r

-- the bytes of all data columns, of all parity columns, and of the whole stripe
abbrev pub data_length : Shape → ℕ
data_length s = s.k * s.l

abbrev pub parity_length : Shape → ℕ
parity_length s = s.r * s.l

abbrev pub stripe_length : Shape → ℕ
stripe_length s = columns s * s.l
