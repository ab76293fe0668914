-- The smallest stripes, one of them no codeword, whose fold in two sittings is not the fold at once: four stripes of zeros, in two groups
-- of two, but for one parity byte of the first.
use Rattle.std.specs.Prelude.{ℕ, List, [], ◌∷◌}
use Rattle.stripe.specs.declared.Shape.{Shape}

-- two data columns, two parity columns; the first stripe holds 01 in parity column 1
abbrev pub two_rows : Shape
two_rows = record { k = 2; r = 2; t = 0; l = 1 }

abbrev pub stale_second : List (List (List ℕ))
stale_second =
    ((0 ∷ 0 ∷ 0 ∷ 1 ∷ []) ∷ (0 ∷ 0 ∷ 0 ∷ 0 ∷ []) ∷ []) ∷ ((0 ∷ 0 ∷ 0 ∷ 0 ∷ []) ∷ (0 ∷ 0 ∷ 0 ∷ 0 ∷ []) ∷ []) ∷ []

-- two data columns, one parity column; the first stripe holds 01 in it
abbrev pub one_row : Shape
one_row = record { k = 2; r = 1; t = 0; l = 1 }

abbrev pub stale_first : List (List (List ℕ))
stale_first = ((0 ∷ 0 ∷ 1 ∷ []) ∷ (0 ∷ 0 ∷ 0 ∷ []) ∷ []) ∷ ((0 ∷ 0 ∷ 0 ∷ []) ∷ (0 ∷ 0 ∷ 0 ∷ []) ∷ []) ∷ []
