-- Rows (document 01, 'Stripes'): sums of bytes, each times a weight that goes by its place.
use Rattle.std.specs.Prelude.{List, [], ◌∷◌, ℕ, suc, ◌*◌}
use Rattle.field.specs.Field.{◌⊕◌, ◌⊗◌, gpow}

-- the sum of g^(i*j) times m_i over a list whose first place is i
unfoldable pub row_from : ℕ → ℕ → List ℕ → ℕ
row_from j i [] = 0
row_from j i (m ∷ ms) = gpow (i * j) ⊗ m ⊕ row_from j (suc i) ms

-- row j of m_0, m_1, ..: the sum over i of g^(i*j) times m_i
unfoldable pub row : ℕ → List ℕ → ℕ
row j ms = row_from j 0 ms
