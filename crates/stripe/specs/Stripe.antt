-- Stripes (document 01, 'Stripes'; document 02, request 6): parity by definition, plain and prepared, and codewords. A stripe's bytes
-- are its columns in order, the data columns first: byte place p of the column at position c stands at c * L + p.
use Rattle.std.specs.Prelude.{ℕ, zero, suc, ◌+◌, ◌*◌, ◌/◌, ◌%◌, ◌<◌, ◌≤◌, ◌≡◌, Bool, true, false, cond, ◌&&◌, ◌||◌, List, [], ◌∷◌, leb, ltb, eqb, length, get_or, take, drop}
use Rattle.field.specs.Field.{◌⊕◌}
use Rattle.field.specs.Bytes.{Bytes, tabulate}
use Rattle.field.specs.Row.{row}
use Rattle.points.specs.Points.{points, sum_at, parity_of as solvedParity}
use Rattle.stripe.specs.declared.Shape.{Shape}
use Rattle.stripe.specs.Shape.{most_rows, most_parity, columns, data_length, parity_length, stripe_length}

-- the bytes at place p of m columns of l bytes, the first of which starts at o
unfoldable pub across : List ℕ → ℕ → ℕ → ℕ → ℕ → List ℕ
across xs l p o zero = []
across xs l p o (suc m) = get_or xs (o + p) 0 ∷ across xs l p (o + l) m

-- row j of the data bytes at place p
unfoldable pub row_at : Shape → List ℕ → ℕ → ℕ → ℕ
row_at s ds j p = row j (across ds s.l p 0 s.k)

-- how many runs a column is cut into: t, or one if the stripe is plain
abbrev pub runs : Shape → ℕ
runs s = cond (eqb s.t 0) 1 s.t

-- the bytes of a run
unfoldable pub run_length : Shape → ℕ
run_length s = s.l / runs s

-- how many runs, the first ones, have no piggyback
abbrev pub plain_runs : Shape → ℕ
plain_runs s = s.r

-- what parity column i holds at place p of run j beside row i: nothing if j < r; if j >= r, row j of run i, at the same place in the run
unfoldable pub piggyback : Shape → List ℕ → ℕ → ℕ → ℕ
piggyback s ds i p =
    cond (ltb (p / run_length s) (plain_runs s)) 0 (row_at s ds (p / run_length s) (i * run_length s + p % run_length s))

-- ---- r from 4 to 16: the code is given by check equations

unfoldable pub by_points : Shape → Bool
by_points s = ltb most_rows s.r && leb s.r most_parity

-- sum u at place p: the sum over all positions of point^u times byte
unfoldable pub check_sum : Shape → List ℕ → ℕ → ℕ → ℕ
check_sum s xs p u = sum_at (points s.k s.r) (across xs s.l p 0 (columns s)) u

-- ---- any r

-- the byte of parity column i at place p: by rows, or the byte that the check equations leave for it
unfoldable pub parity_byte : Shape → List ℕ → ℕ → ℕ → ℕ
parity_byte s ds i p =
    cond (by_points s) (get_or (solvedParity s.r (across ds s.l p 0 s.k)) i 0) (row_at s ds i p ⊕ piggyback s ds i p)

-- the parity columns of the data, in order
unfoldable pub parity : Shape → List ℕ → List ℕ
parity s ds = tabulate (parity_length s) (λ n. parity_byte s ds (n / s.l) (n % s.l))

-- the data bytes and the parity bytes of a whole stripe
abbrev pub data_of : Shape → List ℕ → List ℕ
data_of s xs = take (data_length s) xs

abbrev pub parity_of : Shape → List ℕ → List ℕ
parity_of s xs = drop (data_length s) xs

-- a stripe whose parity is exactly this; with r from 4 to 16 one whose every sum below r is zero, which is the same
pub record Codeword (s : Shape) (xs : List ℕ) : Type 0 where
  pub bytes : Bytes xs
  pub long : length xs ≡ stripe_length s
  pub exact : by_points s ≡ false → parity_of s xs ≡ parity s (data_of s xs)
  pub sums : by_points s ≡ true → (p u : ℕ) → p < s.l → u < s.r → check_sum s xs p u ≡ 0

-- position c stands in the list
unfoldable pub among : ℕ → List ℕ → Bool
among c [] = false
among c (e ∷ es) = eqb c e || among c es

-- positions strictly ascending, each at least a and below n
unfoldable pub Ascending : ℕ → ℕ → List ℕ → Type 0
Ascending a n [] = Unit {0}
Ascending a n (e ∷ es) = (a ≤ e) × (e < n) × Ascending (suc e) n es

-- whether they are
unfoldable pub ascending : ℕ → ℕ → List ℕ → Bool
ascending a n [] = true
ascending a n (e ∷ es) = leb a e && ltb e n && ascending (suc e) n es

-- two stripes hold the same bytes in every column that does not stand in the list
abbrev pub Agree : Shape → List ℕ → List ℕ → List ℕ → Type 0
Agree s es xs ys =
    (c p : ℕ) → c < columns s → p < s.l → among c es ≡ false → get_or xs (c * s.l + p) 0 ≡ get_or ys (c * s.l + p) 0
