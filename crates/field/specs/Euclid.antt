-- What Euclid's algorithm takes from a number in one division, by the bits of 32-bit numbers. It serves a private function.
use Rattle.std.specs.Prelude.{ℕ, ◌-◌, ◌*◌, ◌%◌, ◌^◌, ◌≤◌, ◌<◌}
use Rattle.std.specs.Int.Count.{count_leading_zeros}
use Rattle.field.specs.Field.{◌⊕◌}

-- v, shifted so that its highest bit is u's, added to u
unfoldable pub taken : ℕ → ℕ → ℕ
taken v u = u ⊕ v * 2 ^ (count_leading_zeros 32 v - count_leading_zeros 32 u) % 2 ^ 32

-- w is what is left of u once v has been taken from it until it is shorter than v
pub data Rest (v : ℕ) : ℕ → ℕ → Type 0 where
  shorter : {u : ℕ} → count_leading_zeros 32 v < count_leading_zeros 32 u → Rest v u u
  longer : {u w : ℕ} → count_leading_zeros 32 u ≤ count_leading_zeros 32 v → Rest v (taken v u) w → Rest v u w
