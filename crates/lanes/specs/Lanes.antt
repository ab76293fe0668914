-- Two lists of bytes, place by place, to the end of the shorter.
use Rattle.std.specs.Prelude.{ℕ, Bool, true, ◌&&◌, List, [], ◌∷◌, eqb}

-- f of the two bytes at each place; the rest of the first list stays
unfoldable pub onto : (ℕ → ℕ → ℕ) → List ℕ → List ℕ → List ℕ
onto f [] ys = []
onto f (x ∷ xs) [] = x ∷ xs
onto f (x ∷ xs) (y ∷ ys) = f x y ∷ onto f xs ys

-- f of the two bytes at each place, to the end of the shorter
unfoldable pub both : (ℕ → ℕ → ℕ) → List ℕ → List ℕ → List ℕ
both f [] ys = []
both f (x ∷ xs) [] = []
both f (x ∷ xs) (y ∷ ys) = f x y ∷ both f xs ys

-- whether every byte is zero
unfoldable pub all_zero : List ℕ → Bool
all_zero [] = true
all_zero (x ∷ xs) = eqb x 0 && all_zero xs
