-- The division in `wide`, by x^14 + x^4 + x + 1: what its steps do to fourteen slots, at each of 64 places.
use Rattle.std.specs.Prelude.{ℕ, ◌+◌, ◌*◌, ◌%◌, ◌<◌, ◌≤◌, ◌≡◌, List, ◌⊎◌, length, get_or}
use Rattle.field.specs.Field.{◌⊕◌}

-- the slot m after slot s, of fourteen in a ring
unfoldable pub slot : ℕ → ℕ → ℕ
slot s m = (s + m) % 14

-- v is w but for slot s, which has the bytes d and the slots 10 and 13 after it added
pub record Taken (s : ℕ) (d w v : List ℕ) : Type 0 where
  pub long : length v ≡ length w
  pub own : (q : ℕ) → q < 64
      → get_or v (s * 64 + q) 0 ≡ get_or w (s * 64 + q) 0 ⊕ get_or d q 0 ⊕ get_or w (slot s 10 * 64 + q) 0 ⊕ get_or w (slot s 13 * 64 + q) 0
  pub others : (i : ℕ) → (i < s * 64) ⊎ (s * 64 + 64 ≤ i) → get_or v i 0 ≡ get_or w i 0

-- v is w but for slots 0 to 3, which have slots 10 to 13 added, and slot 0 slot 13 too
pub record Settled (w v : List ℕ) : Type 0 where
  pub first : (q : ℕ) → q < 64 → get_or v q 0 ≡ get_or w q 0 ⊕ get_or w (640 + q) 0 ⊕ get_or w (832 + q) 0
  pub second : (i : ℕ) → 64 ≤ i → i < 256 → get_or v i 0 ≡ get_or w i 0 ⊕ get_or w (640 + i) 0
  pub others : (i : ℕ) → 256 ≤ i → get_or v i 0 ≡ get_or w i 0
