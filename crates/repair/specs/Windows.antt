-- What is known between the steps of a repair: positions in turn, columns that are computed from others, and windows of them.
use Rattle.std.specs.Prelude.{ℕ, ◌+◌, ◌*◌, ◌<◌, ◌≤◌, ◌≡◌, Bool, true, false, ◌&&◌, ◌⊎◌, List, map, ltb, eqb, length, get_or}
use Rattle.field.specs.Field.{◌⊕◌}
use Rattle.points.specs.Lagrange.{dot}
use Rattle.matrix.specs.Matrix.{row_of}

-- number v of the positions is c
unfoldable pub next_is : List ℕ → ℕ → ℕ → Bool
next_is es v c = ltb v (length es) && eqb (get_or es v 0) c

-- an answer to a question
pub record Says (b : Bool) (P : Type 0) : Type 0 where
  pub so : b ≡ true → P
  pub not_so : b ≡ false → P → ⊥

-- ---- columns computed from others

-- row v of the matrix ws times the columns cs of l bytes, at place p
unfoldable pub row_byte : List ℕ → List ℕ → List ℕ → ℕ → ℕ → ℕ → ℕ
row_byte ws cs xs l v p = dot (row_of (length cs) ws v) (map (λ c. get_or xs (c * l + p) 0) cs)

-- byte p of number v of the columns ts
abbrev pub column_byte : List ℕ → List ℕ → ℕ → ℕ → ℕ → ℕ
column_byte ts xs l v p = get_or xs (get_or ts v 0 * l + p) 0

-- a matrix with a row for each of the columns ts, over the columns cs, all of which lie in d bytes
pub record Lent (ws cs ts : List ℕ) (l d : ℕ) : Type 0 where
  pub rows_most : length ts ≤ 16
  pub columns_some : 1 ≤ length cs
  pub columns_most : length cs ≤ 255
  pub places_most : l ≤ 4096
  pub matrix : length ws ≡ length ts * length cs
  pub read : (i : ℕ) → i < length cs → get_or cs i 0 * l + l ≤ d
  pub own : (v : ℕ) → v < length ts → get_or ts v 0 * l + l ≤ d

-- n places from `at` on, and a buffer of m bytes for as many of each of the columns ts
pub record Window (ts : List ℕ) (l at n m : ℕ) : Type 0 where
  pub rows_some : 1 ≤ length ts
  pub places_some : 1 ≤ n
  pub ends : at + n ≤ l
  pub room : m ≡ length ts * n

-- at the places from a to b each of the columns ts is f of its number and the place
pub record Holds (f : ℕ → ℕ → ℕ) (ts : List ℕ) (l a b : ℕ) (xs : List ℕ) : Type 0 where
  pub own : (v p : ℕ) → v < length ts → a ≤ p → p < b → column_byte ts xs l v p ≡ f v p

-- no column stands twice in the list
abbrev pub Distinct : List ℕ → Type 0
Distinct ts = (u v : ℕ) → u < v → v < length ts → get_or ts u 0 ≡ get_or ts v 0 → ⊥

-- c is none of the first m of the columns
abbrev pub NoneOf : List ℕ → ℕ → ℕ → Type 0
NoneOf ts m c = (v : ℕ) → v < m → c ≡ get_or ts v 0 → ⊥

-- the first m of the columns ts are f of the number and the place at the places from a to b; all else stays
pub record Put (f : ℕ → ℕ → ℕ) (ts : List ℕ) (m l a b : ℕ) (xs ys : List ℕ) : Type 0 where
  pub long : length ys ≡ length xs
  pub own : (v p : ℕ) → v < m → a ≤ p → p < b → column_byte ts ys l v p ≡ f v p
  pub other : (c p : ℕ) → p < l → NoneOf ts m c ⊎ ((p < a) ⊎ (b ≤ p)) → get_or ys (c * l + p) 0 ≡ get_or xs (c * l + p) 0

-- to each of the first m rows of n bytes its column is added, from `at` on; all else stays
pub record Added (ts : List ℕ) (m l at n : ℕ) (zs xs ys : List ℕ) : Type 0 where
  pub long : length ys ≡ length xs
  pub own : (v q : ℕ) → v < m → q < n → get_or ys (v * n + q) 0 ≡ get_or xs (v * n + q) 0 ⊕ column_byte ts zs l v (at + q)
  pub rest : (i : ℕ) → m * n ≤ i → get_or ys i 0 ≡ get_or xs i 0

-- a matrix over the columns cs with a row for each of the distinct columns ts, and then for each of the columns ss; all lie in d bytes
pub record Computing (ws cs ts ss : List ℕ) (l d : ℕ) : Type 0 where
  pub rows_most : length ts + length ss ≤ 16
  pub columns_some : 1 ≤ length cs
  pub columns_most : length cs ≤ 255
  pub places_most : l ≤ 4096
  pub matrix : length ws ≡ (length ts + length ss) * length cs
  pub read : (i : ℕ) → i < length cs → get_or cs i 0 * l + l ≤ d
  pub own : (v : ℕ) → v < length ts → get_or ts v 0 * l + l ≤ d
  pub spare : (v : ℕ) → v < length ss → get_or ss v 0 * l + l ≤ d
  pub distinct : Distinct ts

-- the columns ts are written as the first rows say, where each of the columns ss is as the rows after them say; else 8, and all stays
abbrev pub Restores : List ℕ → List ℕ → List ℕ → List ℕ → ℕ → List ℕ → ℕ → List ℕ → Type 0
Restores ws cs ts ss l xs v ys =
    ((v ≡ 0) × (Holds (λ u p. row_byte ws cs xs l (length ts + u) p) ss l 0 l xs × Put (row_byte ws cs xs l) ts (length ts) l 0 l xs ys))
    ⊎ ((v ≡ 8) × ((ys ≡ xs) × (Holds (λ u p. row_byte ws cs xs l (length ts + u) p) ss l 0 l xs → ⊥)))
