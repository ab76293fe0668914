-- What the functions of this crate share: sums of groups of columns, the numbers of such sums, and rows made of them bit by bit.
use Rattle.std.specs.Prelude.{ℕ, zero, suc, ◌+◌, ◌-◌, ◌*◌, ◌/◌, ◌%◌, ◌^◌, ◌<◌, ◌≤◌, ◌≡◌, Bool, cond, List, ◌⊎◌, leb, length, get_or}
use Rattle.field.specs.Field.{◌⊕◌, ◌⊗◌, times}

-- f 0, f 1, .. up to f (n - 1), added
unfoldable pub sum_to : ℕ → (ℕ → ℕ) → ℕ
sum_to zero f = 0
sum_to (suc n) f = sum_to n f ⊕ f n

-- a byte less its b lowest bits
unfoldable pub halved : ℕ → ℕ → ℕ
halved zero c = c
halved (suc b) c = halved b c / 2

-- the number whose n lowest bits are these
unfoldable pub index : ℕ → (ℕ → ℕ) → ℕ
index zero f = 0
index (suc n) f = index n f + f n * 2 ^ n

-- the number whose n bytes are these, from number b on, the first lowest
unfoldable pub side_by_side : ℕ → ℕ → (ℕ → ℕ) → ℕ
side_by_side zero b f = 0
side_by_side (suc n) b f = f b + side_by_side n (suc b) f * 256

-- Horner's rule over the n terms from number b on, the last first
unfoldable pub fall : ℕ → ℕ → (ℕ → ℕ) → ℕ
fall zero b f = 0
fall (suc n) b f = 2 ⊗ fall n (suc b) f ⊕ f b

-- how many of n columns stand in group g of four
unfoldable pub in_group : ℕ → ℕ → ℕ
in_group n g = cond (leb 4 (n - g * 4)) 4 (n - g * 4)

-- ys is xs but for the n places from `at` on, where it is f of xs and of the first bytes of b
pub record Part (f : ℕ → ℕ → ℕ) (xs : List ℕ) (at n : ℕ) (b ys : List ℕ) : Type 0 where
  pub long : length ys ≡ length xs
  pub inside : (q : ℕ) → q < n → get_or ys (at + q) 0 ≡ f (get_or xs (at + q) 0) (get_or b q 0)
  pub outside : (i : ℕ) → (i < at) ⊎ (at + n ≤ i) → get_or ys i 0 ≡ get_or xs i 0

-- the first n sums of group g, with d added, stand after the `have` sums that are there
pub record Widened (g have n : ℕ) (d t u : List ℕ) : Type 0 where
  pub long : length u ≡ length t
  pub new : (c q : ℕ) → c < n → q < 64 → get_or u ((g * 16 + have + c) * 64 + q) 0 ≡ get_or t ((g * 16 + c) * 64 + q) 0 ⊕ get_or d q 0
  pub rest : (i : ℕ) → (i < (g * 16 + have) * 64) ⊎ ((g * 16 + have + n) * 64 ≤ i) → get_or u i 0 ≡ get_or t i 0

-- w bytes of each of the columns with these numbers lie in xs: column c starts at from + c * stride
abbrev pub Inside : List ℕ → List ℕ → ℕ → ℕ → ℕ → Type 0
Inside xs cs from stride w = (i : ℕ) → i < length cs → from + get_or cs i 0 * stride + w ≤ length xs

-- u holds, as group g, the sums of n of these columns, from number i of them on, at w places, each at the number of its bits
abbrev pub GroupIn : List ℕ → List ℕ → ℕ → ℕ → ℕ → ℕ → ℕ → ℕ → List ℕ → Type 0
GroupIn xs cs from stride w i g n u =
    (f : ℕ → ℕ) → ((j : ℕ) → f j < 2) → (q : ℕ) → q < w
    → get_or u ((g * 16 + index n f) * 64 + q) 0 ≡ sum_to n (λ j. times (f j) (get_or xs (from + get_or cs (i + j) 0 * stride + q) 0))

pub record Summed (xs cs : List ℕ) (from stride w i g n : ℕ) (t u : List ℕ) : Type 0 where
  pub long : length u ≡ length t
  pub sums : GroupIn xs cs from stride w i g n u
  pub zero : (q : ℕ) → q < 64 → get_or u (g * 1024 + q) 0 ≡ 0
  pub rest : (i : ℕ) → (i < g * 1024) ⊎ (g * 1024 + 1024 ≤ i) → get_or u i 0 ≡ get_or t i 0

-- u holds the first groups of n of these columns, from number i of them on
abbrev pub GroupsIn : List ℕ → List ℕ → ℕ → ℕ → ℕ → ℕ → ℕ → ℕ → List ℕ → Type 0
GroupsIn xs cs from stride w i n groups u = (g : ℕ) → g < groups → GroupIn xs cs from stride w (i + g * 4) g (in_group n g) u

-- and the sum of no column stands first
abbrev pub ZeroFirst : List ℕ → Type 0
ZeroFirst u = (q : ℕ) → q < 64 → get_or u q 0 ≡ 0

pub record Tabled (xs cs : List ℕ) (from stride w i n : ℕ) (u : List ℕ) : Type 0 where
  pub groups : GroupsIn xs cs from stride w i n ((n + 3) / 4) u
  pub zero : 0 < n → ZeroFirst u

-- place q of the sum number e of each group, e by a list of numbers, eight apart, from `row` on, added
abbrev pub picked : List ℕ → List ℕ → ℕ → ℕ → ℕ → ℕ
picked t es row n q = sum_to n (λ g. get_or t ((g * 16 + get_or es (row + g * 8) 0) * 64 + q) 0)

-- the row whose numbers stand from `row` on, eight to a group
unfoldable pub row_value : List ℕ → List ℕ → ℕ → ℕ → ℕ → ℕ
row_value t es row n q = fall 8 0 (λ b. picked t es (row + b) n q)

-- each number is that of a sum: of one bit, of a row, of the first rows
abbrev pub Numbers : List ℕ → ℕ → ℕ → Type 0
Numbers es row n = (g : ℕ) → g < n → get_or es (row + g * 8) 0 < 16

abbrev pub RowNumbers : List ℕ → ℕ → ℕ → Type 0
RowNumbers es row n = (b : ℕ) → b < 8 → Numbers es (row + b) n

abbrev pub AllNumbers : List ℕ → ℕ → ℕ → Type 0
AllNumbers es rows n = (s : ℕ) → s < rows → RowNumbers es (s * 64) n

-- es holds, from `at` on, the numbers of the first k bits of n weights, and is ds elsewhere
pub record Numbered (f : ℕ → ℕ) (at n k : ℕ) (ds es : List ℕ) : Type 0 where
  pub long : length es ≡ length ds
  pub on : (b : ℕ) → b < k → get_or es (at + b) 0 ≡ index n (λ j. halved b (f j) % 2)
  pub off : (i : ℕ) → (i < at) ⊎ (at + k ≤ i) → get_or es i 0 ≡ get_or ds i 0

-- a row of numbers, from `row` on: those of the first groups of n weights
abbrev pub RowNumbered : (ℕ → ℕ) → ℕ → ℕ → ℕ → List ℕ → Type 0
RowNumbered f row n groups es =
    (g b : ℕ) → g < groups → b < 8 → get_or es (row + b + g * 8) 0 ≡ index (in_group n g) (λ j. halved b (f (g * 4 + j)) % 2)

-- such a row, where what stands before it stays
pub record RowMade (f : ℕ → ℕ) (row n groups : ℕ) (ds es : List ℕ) : Type 0 where
  pub long : length es ≡ length ds
  pub on : RowNumbered f row n groups es
  pub before : (i : ℕ) → i < row → get_or es i 0 ≡ get_or ds i 0

-- the numbers of the first rows of a matrix of m columns, of n columns from i on
pub record AllNumbered (ms : List ℕ) (m i n rows : ℕ) (es : List ℕ) : Type 0 where
  pub at : (s : ℕ) → s < rows → RowNumbered (λ j. get_or ms (s * m + i + j) 0) (s * 64) n ((n + 3) / 4) es

-- the first rows of `count` bytes, at the w places from `at` on, set or added to
pub record Rowed (t es : List ℕ) (groups : ℕ) (fresh : Bool) (count at w rows : ℕ) (ps qs : List ℕ) : Type 0 where
  pub long : length qs ≡ length ps
  pub on : (s q : ℕ) → s < rows → q < w
      → get_or qs (s * count + at + q) 0 ≡ cond fresh 0 (get_or ps (s * count + at + q) 0) ⊕ row_value t es (s * 64) groups q
  pub off : (s p : ℕ) → p < count → (rows ≤ s) ⊎ ((p < at) ⊎ (at + w ≤ p)) → get_or qs (s * count + p) 0 ≡ get_or ps (s * count + p) 0

-- of row s the products of the first n of these columns at place p, added
abbrev pub up_to : List ℕ → List ℕ → List ℕ → ℕ → ℕ → ℕ → ℕ → ℕ → ℕ
up_to ms cs xs from stride n s p = sum_to n (λ i. get_or ms (s * length cs + i) 0 ⊗ get_or xs (from + get_or cs i 0 * stride + p) 0)

-- ps holds i of these columns of each row at every place, where i is not 0
pub record Held (ms cs xs : List ℕ) (from stride count rows i : ℕ) (ps : List ℕ) : Type 0 where
  pub at : (s p : ℕ) → s < rows → p < count → 0 < i → get_or ps (s * count + p) 0 ≡ up_to ms cs xs from stride i s p

-- c is one of the first n of these numbers
pub record Among (cs : List ℕ) (n c : ℕ) : Type 0 where
  pub place : ℕ
  pub below : place < n
  pub is : get_or cs place 0 ≡ c

-- c is the greatest of the first n of these numbers
pub record Greatest (cs : List ℕ) (n c : ℕ) : Type 0 where
  pub most : (i : ℕ) → i < n → get_or cs i 0 ≤ c
  pub there : Among cs n c
