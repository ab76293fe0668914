-- Whole stripes given by check equations (document 02, request 6): columns of l bytes, in order, the k data columns first; byte place p of
-- the column at position c stands at c * l + p. At every place the bytes of all columns are a word over the points of the positions.
use Rattle.std.specs.Prelude.{ℕ, ◌+◌, ◌*◌, ◌/◌, ◌%◌, ◌<◌, ◌≡◌, false, List, ◌++◌, map, length, get_or, take, drop}
use Rattle.field.specs.Bytes.{Bytes, tabulate}
use Rattle.stripe.specs.Stripe.{across, among}
use Rattle.points.specs.Points.{points, sum_at, parity_of}
use Rattle.points.specs.Mending.{mended, Consistent}
use Rattle.points.specs.Folding.{fold_parity, joined}

-- n columns of l bytes that hold the word w p at every place p
unfoldable pub columns_of : ℕ → ℕ → (ℕ → List ℕ) → List ℕ
columns_of n l w = tabulate (n * l) (λ i. get_or (w (i % l)) (i / l) 0)

-- sum s of all columns at place p
unfoldable pub sum_of : ℕ → ℕ → ℕ → List ℕ → ℕ → ℕ → ℕ
sum_of k r l xs p s = sum_at (points k r) (across xs l p 0 (k + r)) s

-- a stripe whose sums below r are all zero at every place
pub record Codeword (k r l : ℕ) (xs : List ℕ) : Type 0 where
  pub bytes : Bytes xs
  pub long : length xs ≡ (k + r) * l
  pub zero_sums : (p s : ℕ) → p < l → s < r → sum_of k r l xs p s ≡ 0

-- the r parity columns of data columns
unfoldable pub parity : ℕ → ℕ → ℕ → List ℕ → List ℕ
parity k r l ds = columns_of r l (λ p. parity_of r (across ds l p 0 k))

-- ---- mending

-- two stripes of n columns hold the same bytes in every column that does not stand in the list
abbrev pub Agree : ℕ → ℕ → List ℕ → List ℕ → List ℕ → Type 0
Agree n l es xs ys = (c p : ℕ) → c < n → p < l → among c es ≡ false → get_or xs (c * l + p) 0 ≡ get_or ys (c * l + p) 0

-- the stripe mended at every place
unfoldable pub stripe_mended : ℕ → ℕ → ℕ → List ℕ → List ℕ → List ℕ
stripe_mended k r l es xs = columns_of (k + r) l (λ p. mended (points k r) es (across xs l p 0 (k + r)))

-- at every place the sums that were not solved by are those of the errors too
abbrev pub Mendable : ℕ → ℕ → ℕ → List ℕ → List ℕ → Type 0
Mendable k r l es xs = (p : ℕ) → p < l → Consistent (points k r) r es (across xs l p 0 (k + r))

-- ---- folding

-- the new parity columns, from the parity columns of each stripe
unfoldable pub fold_columns : ℕ → ℕ → ℕ → List (List ℕ) → List ℕ
fold_columns k r l pss = columns_of r l (λ p. fold_parity k r (map (λ ps. across ps l p 0 r) pss))

-- the data of all stripes in order
unfoldable pub wide_data : ℕ → ℕ → List (List ℕ) → List ℕ
wide_data k l zss = joined (map (λ zs. take (k * l) zs) zss)

-- and the fold of their parity
unfoldable pub wide_stripe : ℕ → ℕ → ℕ → List (List ℕ) → List ℕ
wide_stripe k r l zss = wide_data k l zss ++ fold_columns k r l (map (λ zs. drop (k * l) zs) zss)
