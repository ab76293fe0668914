-- Encoding (document 01, 'Stripes'): k*L data bytes are lent and r*L parity bytes are filled.
use Rattle.std.specs.Prelude.{ℕ, ◌+◌, ◌*◌, ◌<◌, ◌≤◌, ◌≡◌, cond, List, ◌⊎◌, eqb, leb, length, get_or}
use Rattle.stripe.specs.declared.Shape.{Shape}
use Rattle.stripe.specs.Shape.{most_rows}
use Rattle.stripe.specs.Column.{lent_refusal}
use Rattle.stripe.specs.Stripe.{row_at, parity_byte, parity}

-- the refusal of an encoding of d data bytes into p parity bytes: 1 or 2 for the shape, else 5 for a length
abbrev pub encode_refusal : Shape → ℕ → ℕ → ℕ
encode_refusal s d p = lent_refusal s d p

-- what the lent parity holds afterwards: the parity of the data, or where that is refused what it held
unfoldable pub encoded : Shape → List ℕ → List ℕ → List ℕ
encoded s ds ps = cond (eqb (encode_refusal s (length ds) (length ps)) 0) (parity s ds) ps

-- what it holds after an encoding by rows: the same, or with more than `most_rows` parity columns what it held
unfoldable pub encoded_by_rows : Shape → List ℕ → List ℕ → List ℕ
encoded_by_rows s ds ps = cond (leb s.r most_rows) (encoded s ds ps) ps

-- column i of ps is row i of the data; is the parity column
abbrev pub IsRow : Shape → List ℕ → ℕ → List ℕ → Type 0
IsRow s ds i ps = (p : ℕ) → p < s.l → get_or ps (i * s.l + p) 0 ≡ row_at s ds i p

abbrev pub IsParity : Shape → List ℕ → ℕ → List ℕ → Type 0
IsParity s ds i ps = (p : ℕ) → p < s.l → get_or ps (i * s.l + p) 0 ≡ parity_byte s ds i p

-- qs is ps but for column i
pub record Beside (l i : ℕ) (ps qs : List ℕ) : Type 0 where
  pub long : length qs ≡ length ps
  pub outside : (x : ℕ) → (x < i * l) ⊎ (i * l + l ≤ x) → get_or qs x 0 ≡ get_or ps x 0
