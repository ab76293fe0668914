-- The column question (document 01, 'Stripes'): a stripe whose data and parity are lent as two buffers, and its column at a position.
use Rattle.std.specs.Prelude.{ℕ, ◌-◌, ◌*◌, cond, ◌&&◌, List, [], ltb, eqb, length, take, drop}
use Rattle.stripe.specs.declared.Shape.{Shape}
use Rattle.stripe.specs.Shape.{shape_refusal, columns, data_length, parity_length}

-- the refusal of two buffers of these lengths: the shape's, or 5 if one of them has another length than stated
unfoldable pub lent_refusal : Shape → ℕ → ℕ → ℕ
lent_refusal s d p =
    cond (eqb (shape_refusal s) 0) (cond (eqb d (data_length s) && eqb p (parity_length s)) 0 5) (shape_refusal s)

-- the bytes of column c of a buffer
abbrev pub column_in : Shape → List ℕ → ℕ → List ℕ
column_in s xs c = take s.l (drop (c * s.l) xs)

-- the column at position c: of the data if c < k, of the parity if c < n
abbrev pub column_at : Shape → List ℕ → List ℕ → ℕ → List ℕ
column_at s ds ps c = cond (ltb c s.k) (column_in s ds c) (cond (ltb c (columns s)) (column_in s ps (c - s.k)) [])

-- the answer to the column question: the column, or nothing for a refusal
unfoldable pub column_of : Shape → List ℕ → List ℕ → ℕ → List ℕ
column_of s ds ps c = cond (eqb (lent_refusal s (length ds) (length ps)) 0) (column_at s ds ps c) []
