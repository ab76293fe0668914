-- Mending of stripes given by check equations (document 02, request 6): what is refused, and the outcome by existence.
use Rattle.std.specs.Prelude.{ℕ, ◌+◌, ◌*◌, ◌≡◌, Bool, cond, ◌&&◌, ◌⊎◌, List, leb, eqb, length}
use Rattle.stripe.specs.Shape.{most_parity, most_points, most_length}
use Rattle.stripe.specs.Stripe.{ascending}
use Rattle.equations.specs.Whole.{Codeword, Agree}

-- k and r are at least 1, r is at most 16 and k+r at most 255, l is 1 to 4,096, and d bytes are the stripe
unfoldable pub repair_fits : ℕ → ℕ → ℕ → ℕ → Bool
repair_fits k r l d =
    leb 1 k && leb 1 r && leb r most_parity && leb (k + r) most_points && leb 1 l && leb l most_length && eqb d ((k + r) * l)

-- the refusal: 5 for numbers that do not fit, 6 for positions that do not ascend below k+r, 7 for more than r of them, 0 for none
unfoldable pub repair_refusal : ℕ → ℕ → ℕ → List ℕ → ℕ → ℕ
repair_refusal k r l es d = cond (repair_fits k r l d) (cond (ascending 0 (k + r) es) (cond (leb (length es) r) 0 7) 6) 5

-- the outcome with lost positions es of the stripe xs: the answer v, and the bytes ys that are left
pub record Repaired (k r l : ℕ) (es xs : List ℕ) (v : ℕ) (ys : List ℕ) : Type 0 where
  -- a refusal leaves the bytes
  pub refused : (repair_refusal k r l es (length xs) ≡ 0 → ⊥) → (v ≡ repair_refusal k r l es (length xs)) × (ys ≡ xs)
  -- else it is mended, or no codeword agrees with all survivors
  pub judged : repair_refusal k r l es (length xs) ≡ 0
      → ((v ≡ 0) × (Codeword k r l ys × Agree (k + r) l es xs ys))
      ⊎ ((v ≡ 8) × ((ys ≡ xs) × ((zs : List ℕ) → Codeword k r l zs → Agree (k + r) l es xs zs → ⊥)))
