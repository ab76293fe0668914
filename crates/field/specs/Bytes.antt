-- Lists of bytes.
use Rattle.std.specs.Prelude.{List, [], ◌∷◌, ◌++◌, ℕ, zero, suc, ◌+◌, ◌<◌, length, get_or, take, drop}
use Rattle.field.specs.Field.{◌⊕◌}

infixl 65 ◌⊞◌
-- each number of the list is a byte, as is known of a slice of bytes
abbrev pub Bytes : List ℕ → Type 0
Bytes xs = (i : ℕ) → get_or xs i 0 < 256

-- f 0, f 1, .. up to f (n - 1)
unfoldable pub tabulate : ℕ → (ℕ → ℕ) → List ℕ
tabulate zero f = []
tabulate (suc n) f = f 0 ∷ tabulate n (λ i. f (suc i))

-- two lists added place by place, to the end of the shorter
unfoldable pub ◌⊞◌ : List ℕ → List ℕ → List ℕ
[] ⊞ ys = []
(x ∷ xs) ⊞ [] = []
(x ∷ xs) ⊞ (y ∷ ys) = (x ⊕ y) ∷ (xs ⊞ ys)

-- xs over what stands from `at` on; the rest stays
unfoldable pub over : {A : Type 0} → List A → ℕ → List A → List A
over out at xs = take at out ++ (xs ++ drop (at + length xs) out)
