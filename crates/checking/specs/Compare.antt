-- Two lists of bytes compared, place by place, to the end of the shorter.
use Rattle.std.specs.Prelude.{ℕ, suc, Bool, true, cond, ◌&&◌, List, [], ◌∷◌, eqb}

-- whether the two lists agree at each place
unfoldable pub agree : List ℕ → List ℕ → Bool
agree [] ys = true
agree (x ∷ xs) [] = true
agree (x ∷ xs) (y ∷ ys) = eqb x y && agree xs ys

-- the first place at which the two lists differ, or the length of the shorter
unfoldable pub first_difference : List ℕ → List ℕ → ℕ
first_difference [] ys = 0
first_difference (x ∷ xs) [] = 0
first_difference (x ∷ xs) (y ∷ ys) = cond (eqb x y) (suc (first_difference xs ys)) 0
