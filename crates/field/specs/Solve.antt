-- Sums of powers at several points, and the values that have given sums: one solution for any number of distinct points.
use Rattle.std.specs.Prelude.{List, [], ◌∷◌, ℕ, suc}
use Rattle.field.specs.Field.{◌⊕◌, ◌⊗◌, power, inverse_of}

-- the value at x of the polynomial with these coefficients, the constant first
unfoldable pub eval : List ℕ → ℕ → ℕ
eval [] x = 0
eval (c ∷ cs) x = c ⊕ x ⊗ eval cs x

-- the sum over the points b, with weights w and values c, of w times b^u times c
unfoldable pub moment : List ℕ → List ℕ → List ℕ → ℕ → ℕ
moment [] ws cs u = 0
moment (b ∷ bs) [] cs u = 0
moment (b ∷ bs) (w ∷ ws) [] u = 0
moment (b ∷ bs) (w ∷ ws) (c ∷ cs) u = w ⊗ power b u ⊗ c ⊕ moment bs ws cs u

-- each weight times what its point is apart from a
unfoldable pub apart : ℕ → List ℕ → List ℕ → List ℕ
apart a [] ws = []
apart a (b ∷ bs) [] = []
apart a (b ∷ bs) (w ∷ ws) = w ⊗ (b ⊕ a) ∷ apart a bs ws

-- each sum plus a times the one before: the sums of the other points, their weights set apart, once the point a is taken out
unfoldable pub cleared : ℕ → (ℕ → ℕ) → ℕ → ℕ
cleared a s u = s (suc u) ⊕ a ⊗ s u

-- the values whose moments are s 0, s 1, ..: the first point is taken out, the others are solved, and the first value is what s 0 lacks
unfoldable pub solve : List ℕ → List ℕ → (ℕ → ℕ) → List ℕ
solve [] ws s = []
solve (b ∷ bs) [] s = []
solve (b ∷ bs) (w ∷ ws) s =
    let cs = solve bs (apart b bs ws) (cleared b s) in inverse_of w ⊗ (s 0 ⊕ moment bs ws cs 0) ∷ cs
