-- A check by windows: what it keeps, and what a window holds.
use Rattle.std.specs.Prelude.{ℕ, ◌+◌, ◌*◌, ◌<◌, ◌≤◌, ◌≡◌, List, get_or}

-- index b of the m bytes of columns of l bytes: at b the two lists differ, or b is m; before b they agree at the first e places of the
-- first i columns, and at the first p places of each
pub record Kept (l m i e p : ℕ) (xs ys : List ℕ) (b : ℕ) : Type 0 where
  pub most : b ≤ m
  pub differs : b < m → get_or xs b 0 ≡ get_or ys b 0 → ⊥
  pub first : (j q : ℕ) → j < i → q < e → j * l + q < b → get_or xs (j * l + q) 0 ≡ get_or ys (j * l + q) 0
  pub all : (j q : ℕ) → q < p → j * l + q < b → get_or xs (j * l + q) 0 ≡ get_or ys (j * l + q) 0

-- after a window of all columns there is one number of places: those below p of each
abbrev pub Below : ℕ → ℕ → ℕ → List ℕ → List ℕ → ℕ → Type 0
Below l m p xs ys b = Kept l m 0 0 p xs ys b

-- zs holds, of each of r columns of ys, the n bytes from place p on
abbrev pub Window : ℕ → ℕ → ℕ → ℕ → List ℕ → List ℕ → Type 0
Window r l p n zs ys = (i q : ℕ) → i < r → q < n → get_or zs (i * n + q) 0 ≡ get_or ys (i * l + (p + q)) 0
