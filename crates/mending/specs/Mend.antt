-- Mending (document 01, 'Mending'): what is refused, and the outcome by existence.
use Rattle.std.specs.Prelude.{ℕ, ◌≡◌, cond, ◌⊎◌, List, eqb, length}
use Rattle.stripe.specs.declared.Shape.{Shape}
use Rattle.stripe.specs.Shape.{shape_refusal, columns, stripe_length}
use Rattle.stripe.specs.Stripe.{Codeword, Agree}
use Rattle.lost.specs.Positions.{positions, list_refusal}

-- what is refused before a byte of the stripe, of which d are lent, is looked at: 1 or 2 for the shape, 5, 6 or 7, 0 for none
unfoldable pub mend_refusal : Shape → ℕ → List ℕ → ℕ
mend_refusal s d ls = cond (eqb (shape_refusal s) 0) (cond (eqb d (stripe_length s)) (list_refusal (columns s) s.r ls) 5) (shape_refusal s)

-- a codeword that agrees with the stripe in every surviving column
pub record Restored (s : Shape) (es xs ys : List ℕ) : Type 0 where
  pub codeword : Codeword s ys
  pub agrees : Agree s es xs ys

-- the outcome of mending the stripe xs with the lent list ls: the answer v, and the bytes ys that are left
pub record Mended (s : Shape) (ls xs : List ℕ) (v : ℕ) (ys : List ℕ) : Type 0 where
  -- a refusal leaves the bytes
  pub refused : (mend_refusal s (length xs) ls ≡ 0 → ⊥) → (v ≡ mend_refusal s (length xs) ls) × (ys ≡ xs)
  -- else it is mended, or no codeword agrees with all survivors
  pub judged : mend_refusal s (length xs) ls ≡ 0
      → ((v ≡ 0) × Restored s (positions ls) xs ys)
      ⊎ ((v ≡ 8) × ((ys ≡ xs) × ((zs : List ℕ) → Restored s (positions ls) xs zs → ⊥)))
