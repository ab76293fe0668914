-- Syndromes: the parity as it lies and the parity of the data as they lie, added; over the weights of one column.
use Rattle.std.specs.Prelude.{ℕ, ◌+◌, ◌*◌, ◌<◌, ◌≤◌, ◌≡◌, Bool, true, false, ◌⊎◌, List, length, get_or}
use Rattle.field.specs.Field.{◌⊕◌, ◌⊗◌, gpow}
use Rattle.field.specs.Bytes.{Bytes}
use Rattle.stripe.specs.declared.Shape.{Shape}
use Rattle.stripe.specs.Shape.{shape_refusal, parity_length, stripe_length}
use Rattle.stripe.specs.Stripe.{by_points, parity_byte, data_of}

-- a whole stripe of d bytes, of an allowed shape by rows, and a buffer of p bytes for its r rows; x is 0, or a data column of a plain
-- stripe
pub record Lent (s : Shape) (x d p : ℕ) : Type 0 where
  pub shape : shape_refusal s ≡ 0
  pub rows : by_points s ≡ false
  pub long : d ≡ stripe_length s
  pub room : p ≡ parity_length s
  pub apart : (x ≡ 0) ⊎ ((s.t ≡ 0) × (x < s.k))

-- row j, times the weight g^(j*x) of column x, is what parity column j as it lies is apart from the parity of the data as they lie
pub record Syndromes (s : Shape) (x : ℕ) (xs ys : List ℕ) : Type 0 where
  pub bytes : Bytes ys
  pub long : length ys ≡ parity_length s
  pub at : (j y : ℕ) → j < s.r → y < s.l
      → gpow (j * x) ⊗ get_or ys (j * s.l + y) 0 ≡ get_or xs ((s.k + j) * s.l + y) 0 ⊕ parity_byte s (data_of s xs) j y

-- the buffer held ys and then holds ys': the syndromes, or where that is refused what it held
pub record Filled (s : Shape) (x : ℕ) (xs ys ys' : List ℕ) : Type 0 where
  pub lent : Lent s x (length xs) (length ys) → Syndromes s x xs ys'
  pub not_lent : (Lent s x (length xs) (length ys) → ⊥) → ys' ≡ ys

-- v says whether P holds
pub record Says (v : Bool) (P : Type 0) : Type 0 where
  pub so : v ≡ true → P
  pub not_so : v ≡ false → P → ⊥

-- the rows may be formed in blocks of 64 places, and not all weights of column x are 1
pub record InBlocks (s : Shape) (x : ℕ) : Type 0 where
  pub later : 0 < x
  pub rows : 2 ≤ s.r
  pub long : 64 ≤ s.l

-- each of the r rows of l bytes is over its weight of column x
pub record Divided (l r x : ℕ) (ys zs : List ℕ) : Type 0 where
  pub long : length zs ≡ length ys
  pub at : (j y : ℕ) → j < r → y < l → gpow (j * x) ⊗ get_or zs (j * l + y) 0 ≡ get_or ys (j * l + y) 0
