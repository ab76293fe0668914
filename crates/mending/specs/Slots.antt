-- Slots of n bytes at equal distances in one buffer: what the functions over them leave, place by place.
use Rattle.std.specs.Prelude.{ℕ, suc, ◌+◌, ◌*◌, ◌<◌, ◌≤◌, ◌≡◌, ◌⊎◌, List, [], ◌∷◌, length, get_or, drop}
use Rattle.field.specs.Field.{◌⊕◌, ◌⊗◌, inverse_of}
use Rattle.field.specs.Solve.{solve}
use Rattle.stripe.specs.Shape.{most_rows, most_rows_length}

-- what the slots from a on, d apart, hold at place q, by their number
abbrev pub slots_at : List ℕ → ℕ → ℕ → ℕ → ℕ → ℕ
slots_at xs a d q v = get_or xs (a + v * d + q) 0

-- the sum over v of weight v times f v
unfoldable pub weighted : List ℕ → (ℕ → ℕ) → ℕ
weighted [] f = 0
weighted (w ∷ ws) f = w ⊗ f 0 ⊕ weighted ws (λ v. f (suc v))

-- index i stands outside the n bytes from a on
abbrev pub Outside : ℕ → ℕ → ℕ → Type 0
Outside a n i = (i < a) ⊎ (a + n ≤ i)

-- e slots of n bytes from b on, and a slot at a that is none of them, all within len bytes
pub record Sources (e a b d n len : ℕ) : Type 0 where
  pub few : e ≤ most_rows
  pub small : len ≤ most_rows_length
  pub target : a + n ≤ len
  pub source : (v : ℕ) → v < e → b + v * d + n ≤ len
  pub apart : (v q : ℕ) → v < e → q < n → Outside a n (b + v * d + q)

-- the slots from b on, each times its weight, added to the slot at a
pub record Gathered (ws : List ℕ) (a b d n : ℕ) (xs ys : List ℕ) : Type 0 where
  pub long : length ys ≡ length xs
  pub on : (q : ℕ) → q < n → get_or ys (a + q) 0 ≡ get_or xs (a + q) 0 ⊕ weighted ws (slots_at xs b d q)
  pub off : (i : ℕ) → Outside a n i → get_or ys i 0 ≡ get_or xs i 0

-- e slots of n bytes from a on, d apart, within len bytes
pub record Spaced (e a d n len : ℕ) : Type 0 where
  pub few : e ≤ most_rows
  pub small : len ≤ most_rows_length
  pub step : d ≤ most_rows_length
  pub wide : n ≤ d
  pub room : (v : ℕ) → v < e → a + v * d + n ≤ len

-- index i stands in none of the slots from number b to e
abbrev pub OffSlots : ℕ → ℕ → ℕ → ℕ → ℕ → ℕ → Type 0
OffSlots b e a d n i = (v : ℕ) → b ≤ v → v < e → Outside (a + v * d) n i

-- each of e slots but the first with c times the slot before added
pub record Cleared (c e a d n : ℕ) (xs ys : List ℕ) : Type 0 where
  pub long : length ys ≡ length xs
  pub next : (q v : ℕ) → q < n → v + 1 < e → slots_at ys a d q (v + 1) ≡ slots_at xs a d q (v + 1) ⊕ c ⊗ slots_at xs a d q v
  pub off : (i : ℕ) → OffSlots 1 e a d n i → get_or ys i 0 ≡ get_or xs i 0

-- the weights but the first, each times what its point is apart from the first point
pub record SetApart (bs ws ws' : List ℕ) : Type 0 where
  pub long : length ws' ≡ most_rows
  pub at : (v : ℕ) → v + 1 < length bs → get_or ws' v 0 ≡ get_or ws (v + 1) 0 ⊗ (get_or bs (v + 1) 0 ⊕ get_or bs 0 0)

-- the first slot plus the others by their weights, times the inverse of the first weight; all else stays
pub record First (ws : List ℕ) (a d n : ℕ) (xs ys : List ℕ) : Type 0 where
  pub long : length ys ≡ length xs
  pub first : (q : ℕ) → q < n
      → get_or ys (a + q) 0 ≡ inverse_of (get_or ws 0 0) ⊗ (get_or xs (a + q) 0 ⊕ weighted (drop 1 ws) (slots_at xs (a + d) d q))
  pub others : (i : ℕ) → Outside a n i → get_or ys i 0 ≡ get_or xs i 0

-- at each place the values whose sums stood there; all else stays
pub record Solved (bs ws : List ℕ) (a d n : ℕ) (xs ys : List ℕ) : Type 0 where
  pub long : length ys ≡ length xs
  pub at : (q v : ℕ) → q < n → v < length bs → slots_at ys a d q v ≡ get_or (solve bs ws (slots_at xs a d q)) v 0
  pub off : (i : ℕ) → OffSlots 0 (length bs) a d n i → get_or ys i 0 ≡ get_or xs i 0
