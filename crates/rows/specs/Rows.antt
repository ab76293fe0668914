-- Rows of whole columns of l bytes, place by place: which numbers are taken, and what is filled in or added.
use Rattle.std.specs.Prelude.{ℕ, ◌+◌, ◌*◌, ◌/◌, ◌%◌, ◌<◌, ◌≤◌, ◌≡◌, Bool, cond, ◌&&◌, List, ◌⊎◌, leb, ltb, eqb, length, get_or}
use Rattle.field.specs.Field.{◌⊕◌, ◌⊗◌}
use Rattle.field.specs.Bytes.{tabulate}
use Rattle.field.specs.Row.{row}
use Rattle.lanes.specs.Lanes.{onto}
use Rattle.stripe.specs.Shape.{most_rows, most_length, data_allowed}
use Rattle.stripe.specs.Stripe.{across}

-- d bytes are k columns of l bytes, 1 to 255 columns of at most 4,096 bytes
unfoldable pub columns_fit : ℕ → ℕ → ℕ → Bool
columns_fit d k l = data_allowed k && leb l most_length && eqb d (k * l)

-- and n bytes are as long as r rows of them, 1 to 3
abbrev pub rows_fit : ℕ → ℕ → ℕ → ℕ → ℕ → Bool
rows_fit d k l r n = columns_fit d k l && (leb 1 r && leb r most_rows && eqb n (r * l))

-- and row j is one of the first three, and its n places from `from` on are within it
abbrev pub run_fits : ℕ → ℕ → ℕ → ℕ → ℕ → ℕ → Bool
run_fits d k l j from n = columns_fit d k l && (ltb j most_rows && leb (from + n) l)

-- rows 0 to r - 1 of the k columns, one after another
unfoldable pub rows_of : List ℕ → ℕ → ℕ → ℕ → List ℕ
rows_of xs k l r = tabulate (r * l) (λ n. row (n / l) (across xs l (n % l) 0 k))

-- row j of the k columns at the n places from `from` on
unfoldable pub row_part : List ℕ → ℕ → ℕ → ℕ → ℕ → ℕ → List ℕ
row_part xs k l j from n = tabulate n (λ q. row j (across xs l (from + q) 0 k))

-- what a buffer holds that the rows were filled into, and a run that a row was added to: what it held, where the numbers do not fit
unfoldable pub filled : List ℕ → ℕ → ℕ → ℕ → List ℕ → List ℕ
filled xs k l r ps = cond (rows_fit (length xs) k l r (length ps)) (rows_of xs k l r) ps

unfoldable pub added : List ℕ → ℕ → ℕ → ℕ → ℕ → List ℕ → List ℕ
added xs k l j from ps =
    cond (run_fits (length xs) k l j from (length ps)) (onto (λ (x y : ℕ). x ⊕ y) ps (row_part xs k l j from (length ps))) ps

-- a step of row j, of the first three: g^j times the first, and the second
unfoldable pub step_of : ℕ → ℕ → ℕ → ℕ
step_of j x y = cond (ltb j 1) (x ⊕ y) (cond (ltb j 2) (2 ⊗ x ⊕ y) (4 ⊗ x ⊕ y))

-- the first n bytes of b are row j of the k columns at the places from `from` on
abbrev pub RowIn : List ℕ → ℕ → ℕ → ℕ → ℕ → ℕ → List ℕ → Type 0
RowIn xs k l from n j b = (q : ℕ) → q < n → get_or b q 0 ≡ row j (across xs l (from + q) 0 k)

-- rows 0 to r - 1 of the k columns stand one after another in ps, each at its places below e
abbrev pub RowsBelow : List ℕ → ℕ → ℕ → ℕ → ℕ → List ℕ → Type 0
RowsBelow xs k l r e ps = (j p : ℕ) → j < r → p < e → get_or ps (j * l + p) 0 ≡ row j (across xs l p 0 k)

-- rows 0 to j - 1 stand there, and row j at its places below e
abbrev pub RowsTo : List ℕ → ℕ → ℕ → ℕ → ℕ → List ℕ → Type 0
RowsTo xs k l j e ps = RowsBelow xs k l j l ps × ((p : ℕ) → p < e → get_or ps (j * l + p) 0 ≡ row j (across xs l p 0 k))

-- ys is xs but for the n places from `at` on, which hold the first bytes of b
pub record Put (xs : List ℕ) (at n : ℕ) (b ys : List ℕ) : Type 0 where
  pub long : length ys ≡ length xs
  pub inside : (q : ℕ) → q < n → get_or ys (at + q) 0 ≡ get_or b q 0
  pub outside : (i : ℕ) → (i < at) ⊎ (at + n ≤ i) → get_or ys i 0 ≡ get_or xs i 0

-- qs is ps but for the n places from `at` on, to which row j of the k columns is added at the places from `from` on
pub record Added (xs : List ℕ) (k l j from at n : ℕ) (ps qs : List ℕ) : Type 0 where
  pub long : length qs ≡ length ps
  pub inside : (q : ℕ) → q < n → get_or qs (at + q) 0 ≡ get_or ps (at + q) 0 ⊕ row j (across xs l (from + q) 0 k)
  pub outside : (i : ℕ) → (i < at) ⊎ (at + n ≤ i) → get_or qs i 0 ≡ get_or ps i 0
