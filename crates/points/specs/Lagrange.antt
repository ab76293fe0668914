-- Lagrange's polynomials: what a byte at any point counts in the bytes at other points that have the same sums. By them encoding,
-- mending and a fold are each a matrix times bytes, and the matrix depends on the points alone.
use Rattle.std.specs.Prelude.{ℕ, zero, suc, List, [], ◌∷◌, get_or}
use Rattle.field.specs.Field.{◌⊕◌, ◌⊗◌, inverse_of}

-- the sum of the products of two lists, place by place, to the end of the shorter
unfoldable pub dot : List ℕ → List ℕ → ℕ
dot [] xs = 0
dot (c ∷ cs) [] = 0
dot (c ∷ cs) (x ∷ xs) = c ⊗ x ⊕ dot cs xs

-- the product over the points b of what y is apart from b
unfoldable pub away : List ℕ → ℕ → ℕ
away [] y = 1
away (b ∷ bs) y = (y ⊕ b) ⊗ away bs y

-- the points but for number v
unfoldable pub others : List ℕ → ℕ → List ℕ
others [] v = []
others (b ∷ bs) zero = bs
others (b ∷ bs) (suc v) = b ∷ others bs v

-- Lagrange's polynomial of point v of these, at y: 1 where y is that point, 0 where it is another of them
unfoldable pub lagrange : List ℕ → ℕ → ℕ → ℕ
lagrange bs v y = inverse_of (away (others bs v) (get_or bs v 0)) ⊗ away (others bs v) y
