-- The multiples by which a product is made.
use Rattle.std.specs.Prelude.{ℕ, ◌+◌, ◌<◌, ◌≡◌, List, slice_index}
use Rattle.field.specs.Field.{◌⊗◌}

-- each of the eight numbers is twice the one before
pub record Doubling (m : List ℕ) : Type 0 where
  pub twice : (i : ℕ) → i < 7 → slice_index m (i + 1) ≡ 2 ⊗ slice_index m i
