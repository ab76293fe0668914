-- Folding stripes of k data bytes and r parity bytes, at one byte place, from their parity alone.
use Rattle.std.specs.Prelude.{ℕ, zero, suc, ◌+◌, ◌-◌, ◌*◌, ◌/◌, ◌%◌, ◌≡◌, List, [], ◌∷◌, ◌++◌, map, length, take, drop}
use Rattle.field.specs.Field.{gpow}
use Rattle.field.specs.Bytes.{tabulate, ◌⊞◌}
use Rattle.field.specs.Row.{row}
use Rattle.points.specs.Points.{parity_points, solve_at, parity_sum, Checked, parity_of}

-- the new parity's sum for s: the sum over the stripes l of g^(l*(k*s)) times that of its old parity, which is row k*s of these sums
unfoldable pub fold_sum : ℕ → ℕ → List (List ℕ) → ℕ
fold_sum k s pss = row (k * s) (map (parity_sum s) pss)

-- the new parity: the bytes at the parity points that have these sums
unfoldable pub fold_parity : ℕ → ℕ → List (List ℕ) → List ℕ
fold_parity k r pss = solve_at (parity_points r) (λ s. fold_sum k s pss)

-- byte i of the old parity of stripe l stands for a byte at the point g^(l*k + 254-i): these points in order, for n stripes
unfoldable pub fold_points : ℕ → ℕ → ℕ → List ℕ
fold_points k r n = tabulate (n * r) (λ i. gpow (i / r * k + (254 - i % r)))

-- ---- whole stripes

-- a stripe's data and its parity
abbrev pub Stripe : Type 0
Stripe = List ℕ × List ℕ

-- it has k data bytes
abbrev pub Long : ℕ → Stripe → Type 0
Long k z = length z.0 ≡ k

-- all its sums below r are zero
abbrev pub Sound : ℕ → Stripe → Type 0
Sound r z = Checked r z.0 z.1

-- all in the list are as said
unfoldable pub Each : {A : Type 0} → (A → Type 0) → List A → Type 0
Each P [] = Unit {0}
Each P (x ∷ xs) = P x × Each P xs

-- lists one after the other
unfoldable pub joined : {A : Type 0} → List (List A) → List A
joined [] = []
joined (xs ∷ xss) = xs ++ joined xss

-- n parts of m each
unfoldable pub parts : {A : Type 0} → ℕ → ℕ → List A → List (List A)
parts m zero xs = []
parts m (suc n) xs = take m xs ∷ parts m n (drop m xs)

-- the data of all stripes in order
unfoldable pub wide_data : List Stripe → List ℕ
wide_data zs = joined (map (λ z. z.0) zs)

-- the parity of each
unfoldable pub parities : List Stripe → List (List ℕ)
parities zs = map (λ z. z.1) zs

-- the wide stripe: the data of all stripes, and the fold of their parity
unfoldable pub wide_stripe : ℕ → ℕ → List Stripe → Stripe
wide_stripe k r zs = (wide_data zs, fold_parity k r (parities zs))

-- what a stripe's parity is off by: the bytes it holds plus those by definition
unfoldable pub disagreement : ℕ → Stripe → List ℕ
disagreement r z = z.1 ⊞ parity_of r z.0
