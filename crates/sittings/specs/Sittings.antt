-- Folding in two sittings (document 02, request 1): N1 stripes are folded into each of N2 half-wide stripes, and those N2 into the wide
-- one. The narrow stripes come as N2 groups of N1; all stripes in order are the groups joined.
use Rattle.std.specs.Prelude.{ℕ, ◌<◌, ◌≡◌, List, [], ◌++◌, map, length, get_or}
use Rattle.field.specs.Bytes.{Bytes}
use Rattle.points.specs.Folding.{joined}
use Rattle.stripe.specs.declared.Shape.{Shape}
use Rattle.stripe.specs.Shape.{stripe_length}
use Rattle.stripe.specs.Stripe.{parity, Codeword}
use Rattle.plan.specs.Plan.{wide_shape}
use Rattle.fold.specs.Fold.{wide_data, wide_stripe}

-- n₂ groups of n₁ stripes each, every stripe as many bytes as its shape has
pub record Groups (s : Shape) (n₁ n₂ : ℕ) (gs : List (List (List ℕ))) : Type 0 where
  pub many : length gs ≡ n₂
  pub each : (i : ℕ) → i < length gs → length (get_or gs i []) ≡ n₁
  pub long : (i x : ℕ) → i < length gs → x < length (get_or gs i []) → length (get_or (get_or gs i []) x []) ≡ stripe_length s
  pub bytes : (i x : ℕ) → i < length gs → x < length (get_or gs i []) → Bytes (get_or (get_or gs i []) x [])

-- every stripe is a codeword
abbrev pub Codewords : Shape → List (List (List ℕ)) → Type 0
Codewords s gs = (i x : ℕ) → i < length gs → x < length (get_or gs i []) → Codeword s (get_or (get_or gs i []) x [])

-- the half-wide stripes, with f parity columns: of each group its data, and the fold of what the plan names of it
unfoldable pub halves : Shape → ℕ → ℕ → List (List (List ℕ)) → List (List ℕ)
halves s n f gs = map (λ g. wide_stripe s n f g) gs

-- the wide stripe by two sittings, from r to f₁ to f₂ parity columns
unfoldable pub in_two : Shape → ℕ → ℕ → ℕ → ℕ → List (List (List ℕ)) → List ℕ
in_two s n₁ f₁ n₂ f₂ gs = wide_stripe (wide_shape s n₁ f₁) n₂ f₂ (halves s n₁ f₁ gs)

-- the wide stripe by one fold of all n stripes
unfoldable pub at_once : Shape → ℕ → ℕ → List (List (List ℕ)) → List ℕ
at_once s n f gs = wide_stripe s n f (joined gs)

-- the wide stripe by definition, a codeword: all data in order, and their parity
unfoldable pub by_definition : Shape → ℕ → ℕ → List (List (List ℕ)) → List ℕ
by_definition s n f gs = wide_data s (joined gs) ++ parity (wide_shape s n f) (wide_data s (joined gs))
