-- Examples of codes given by check equations, at one byte place, computed from the definitions; and what they say of columns of one byte.
use Prim.Native.Nat.{ℕ}
use mathlib.Core.Path.{◌≡◌, refl, ap}
use mathlib.Core.List.{List, [], ◌∷◌, map}
use lib.ListN.{get_or}
use Rattle.field.specs.Field.{◌⊕◌, ◌⊗◌, doubled, shifted, power, gpow, inverse_of}
use Rattle.field.specs.Bytes.{tabulate}
use Rattle.field.specs.Row.{row, row_from}
use Rattle.field.specs.Solve.{moment, apart, cleared, solve}
use Rattle.points.specs.Points.{parity_points, solve_at, parity_sum, parity_sum_from, parity_of}
use Rattle.points.specs.Folding.{fold_sum, fold_parity}
use Rattle.stripe.specs.Stripe.{by_points, across, parity_byte, parity}
use Rattle.equations.specs.Whole.{columns_of, fold_columns}
use Rattle.demands.specs.Worked.{shape}

-- ---- parity

pub one : parity_of 4 (0x01 ∷ 0x02 ∷ 0x03 ∷ 0x04 ∷ []) ≡ 0x60 ∷ 0x9B ∷ 0x1C ∷ 0xE3 ∷ []
unfolding parity_of solve_at parity_points solve moment apart cleared row row_from tabulate gpow inverse_of power doubled shifted ◌⊕◌ ◌⊗◌
one = refl

pub two : parity_of 4 (0x05 ∷ 0x06 ∷ 0x07 ∷ 0x08 ∷ []) ≡ 0x77 ∷ 0x00 ∷ 0x4B ∷ 0x30 ∷ []
unfolding parity_of solve_at parity_points solve moment apart cleared row row_from tabulate gpow inverse_of power doubled shifted ◌⊕◌ ◌⊗◌
two = refl

pub narrow_one : parity_of 4 (0x01 ∷ 0x02 ∷ []) ≡ 0xC9 ∷ 0x98 ∷ 0xC1 ∷ 0x93 ∷ []
unfolding parity_of solve_at parity_points solve moment apart cleared row row_from tabulate gpow inverse_of power doubled shifted ◌⊕◌ ◌⊗◌
narrow_one = refl

pub narrow_two : parity_of 4 (0x03 ∷ 0x04 ∷ []) ≡ 0x80 ∷ 0x1B ∷ 0xE7 ∷ 0x7B ∷ []
unfolding parity_of solve_at parity_points solve moment apart cleared row row_from tabulate gpow inverse_of power doubled shifted ◌⊕◌ ◌⊗◌
narrow_two = refl

pub wide : parity_of 4 (0x01 ∷ 0x02 ∷ 0x03 ∷ 0x04 ∷ 0x05 ∷ 0x06 ∷ 0x07 ∷ 0x08 ∷ []) ≡ 0x7C ∷ 0x16 ∷ 0xAB ∷ 0xC9 ∷ []
unfolding parity_of solve_at parity_points solve moment apart cleared row row_from tabulate gpow inverse_of power doubled shifted ◌⊕◌ ◌⊗◌
wide = refl

-- ---- a fold

pub folded : fold_parity 4 4 ((0x60 ∷ 0x9B ∷ 0x1C ∷ 0xE3 ∷ []) ∷ (0x77 ∷ 0x00 ∷ 0x4B ∷ 0x30 ∷ []) ∷ []) ≡ 0x7C ∷ 0x16 ∷ 0xAB ∷ 0xC9 ∷ []
unfolding fold_parity fold_sum parity_sum parity_sum_from solve_at parity_points solve moment apart cleared row row_from tabulate gpow inverse_of power
    doubled shifted ◌⊕◌ ◌⊗◌
folded = refl

-- two stale stripes that cancel: the first off by 54 8C 47 9E, the second by 01 in parity column 0
pub cancelled : fold_parity 4 4 ((0x34 ∷ 0x17 ∷ 0x5B ∷ 0x7D ∷ []) ∷ (0x76 ∷ 0x00 ∷ 0x4B ∷ 0x30 ∷ []) ∷ []) ≡ 0x7C ∷ 0x16 ∷ 0xAB ∷ 0xC9 ∷ []
unfolding fold_parity fold_sum parity_sum parity_sum_from solve_at parity_points solve moment apart cleared row row_from tabulate gpow inverse_of power
    doubled shifted ◌⊕◌ ◌⊗◌
cancelled = refl

-- ---- four columns of one byte hold the four bytes of their place

pub parity_columns : (k : ℕ) (ds : List ℕ) (a b c d : ℕ) → parity_of 4 (across ds 1 0 0 k) ≡ a ∷ b ∷ c ∷ d ∷ []
    → parity (shape k 4 0 1) ds ≡ a ∷ b ∷ c ∷ d ∷ []
unfolding parity parity_byte by_points tabulate
parity_columns k ds a b c d e = ap (λ (ps : List ℕ). get_or ps 0 0 ∷ get_or ps 1 0 ∷ get_or ps 2 0 ∷ get_or ps 3 0 ∷ []) e

pub folded_columns : (k : ℕ) (pss : List (List ℕ)) (a b c d : ℕ) → fold_parity k 4 (map (λ ps. across ps 1 0 0 4) pss) ≡ a ∷ b ∷ c ∷ d ∷ []
    → fold_columns k 4 1 pss ≡ a ∷ b ∷ c ∷ d ∷ []
unfolding fold_columns columns_of tabulate
folded_columns k pss a b c d e = ap (λ (ps : List ℕ). get_or ps 0 0 ∷ get_or ps 1 0 ∷ get_or ps 2 0 ∷ get_or ps 3 0 ∷ []) e
