-- Bytes of one list taken to others of it.
use Rattle.std.specs.Prelude.{ℕ, ◌+◌, ◌<◌, ◌≡◌, Bool, cond, ◌&&◌, ◌||◌, List, ◌++◌, leb, length, get_or, take, drop}
use Rattle.field.specs.Field.{◌⊗◌}
use Rattle.field.specs.Bytes.{Bytes}
use Rattle.lanes.specs.Lanes.{onto}

-- whether the n places from a on and the n from b on are all of len, and none is of both
unfoldable pub disjoint : ℕ → ℕ → ℕ → ℕ → Bool
disjoint a b n len = leb (a + n) len && leb (b + n) len && (leb (a + n) b || leb (b + n) a)

-- f of the two bytes at each of the n places from a on and of those from b on; all else stays, and where the two are not apart all stays
unfoldable pub within : (ℕ → ℕ → ℕ) → ℕ → ℕ → ℕ → List ℕ → List ℕ
within f a b n xs = cond (disjoint a b n (length xs)) (take a xs ++ onto f (drop a xs) (take n (drop b xs))) xs

-- each byte of ys by the factor k is that of xs by c
pub record Halved (c k : ℕ) (xs ys : List ℕ) : Type 0 where
  pub long : length ys ≡ length xs
  pub bytes : Bytes xs → Bytes ys
  pub same : (q : ℕ) → q < length xs → k ⊗ get_or ys q 0 ≡ c ⊗ get_or xs q 0
