-- What the rows lack, over the weight of a column that is set apart.
use Rattle.std.specs.Prelude.{ℕ, ◌+◌, ◌*◌, ◌-◌, ◌<◌, ◌≤◌, ◌≡◌, List, ◌⊎◌, length, get_or}
use Rattle.field.specs.Field.{◌⊕◌, ◌⊗◌, gpow}
use Rattle.field.specs.Row.{row}
use Rattle.stripe.specs.Stripe.{across}
use Rattle.stripe.specs.Shape.{most_data, most_rows, most_length}

-- for each of the first r rows ts holds what the row lacks of the parity byte, by the data as they lie, over the weight g^(j*x) of column x
pub record Apart (xs : List ℕ) (k l r x : ℕ) (ts : List ℕ) : Type 0 where
  pub long : length ts ≡ r * l
  pub at : (j p : ℕ) → j < r → p < l → gpow (j * x) ⊗ get_or ts (j * l + p) 0 ≡ get_or xs ((k + j) * l + p) 0 ⊕ row j (across xs l p 0 k)

-- a stripe of k data columns and r parity columns, of which data column x is set apart, and a list with room for r columns
pub record Parted (xs : List ℕ) (k l r x n : ℕ) : Type 0 where
  pub long : length xs ≡ (k + r) * l
  pub room : n ≡ r * l
  pub some : 2 ≤ r
  pub most : r ≤ most_rows
  pub within : x < k
  pub wide : k ≤ most_data
  pub length_some : 64 ≤ l
  pub length_most : l ≤ most_length

-- 64 places from `from` on, of a stripe that has two parity columns, or three
pub record Places (xs : List ℕ) (k l r x from : ℕ) : Type 0 where
  pub long : (k + r) * l ≤ length xs
  pub within : x ≤ k
  pub fits : from + 64 ≤ l
  pub some : 2 ≤ r
  pub most : r ≤ most_rows

-- the first n bytes of b, times g^(j*x), are parity column j and row j of the x first columns, at the places from `from` on
abbrev pub BelowIn : List ℕ → ℕ → ℕ → ℕ → ℕ → ℕ → ℕ → List ℕ → Type 0
BelowIn xs k l x from n j b =
    (q : ℕ) → q < n → gpow (j * x) ⊗ get_or b q 0 ≡ get_or xs ((k + j) * l + (from + q)) 0 ⊕ row j (across xs l (from + q) 0 x)

-- ys is xs but for the n places from `at` on, to which the first bytes of b are added
pub record Plus (xs : List ℕ) (at n : ℕ) (b ys : List ℕ) : Type 0 where
  pub long : length ys ≡ length xs
  pub inside : (q : ℕ) → q < n → get_or ys (at + q) 0 ≡ get_or xs (at + q) 0 ⊕ get_or b q 0
  pub outside : (i : ℕ) → (i < at) ⊎ (at + n ≤ i) → get_or ys i 0 ≡ get_or xs i 0

-- row j of ts is as in `Apart` at the places below e, and the row of the columns from x on at the others
pub record RowTo (xs : List ℕ) (k l x e j : ℕ) (ts : List ℕ) : Type 0 where
  pub done : (p : ℕ) → p < e → p < l → gpow (j * x) ⊗ get_or ts (j * l + p) 0 ≡ get_or xs ((k + j) * l + p) 0 ⊕ row j (across xs l p 0 k)
  pub left : (p : ℕ) → e ≤ p → p < l → get_or ts (j * l + p) 0 ≡ row j (across xs l p (x * l) (k - x))

-- rows 0 and 1 are so to the places below d, row 2 to those below e
pub record RowsTo (xs : List ℕ) (k l r x d e : ℕ) (ts : List ℕ) : Type 0 where
  pub long : length ts ≡ r * l
  pub first : (j : ℕ) → j < 2 → RowTo xs k l x d j ts
  pub last : (j : ℕ) → 2 ≤ j → j < r → RowTo xs k l x e j ts
