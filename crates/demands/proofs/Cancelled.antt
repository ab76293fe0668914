-- Why demand 3's last sentence is said of stripes, and not of bytes, with r above 3: k=4, r=4, N=2, L=1. In parity columns 1 to 3 stripe 0 alone is wrong,
-- and yet the wide stripe is a codeword: stripe 1, wrong in parity column 0, cancels it.
use Prim.Native.Nat.{ℕ, zero, suc, ◌<◌}
use mathlib.Core.Path.{◌≡◌, refl, sym, ap, ◌∙◌, subst}
use mathlib.Core.Bool.{true}
use mathlib.Core.List.{List, [], ◌∷◌, ◌++◌}
use native.Mathlib.Omega.{arith}
use lib.Dec.{lit<}
use lib.ListN.{length, get_or}
use Rattle.field.specs.Field.{◌⊕◌, ◌⊗◌, doubled, shifted, power, gpow}
use Rattle.field.specs.Bytes.{tabulate}
use Rattle.points.specs.Points.{data_points, parity_points, points, sum_at}
use Rattle.points.specs.Folding.{joined, parts}
use Rattle.stripe.specs.declared.Shape.{Shape}
use Rattle.stripe.specs.Shape.{shape_refusal}
use Rattle.stripe.specs.Stripe.{by_points, across, check_sum, Codeword}
use Rattle.stripe.proofs.Codewords.{codeword_of}
use Rattle.equations.specs.Whole.{fold_columns}
use Rattle.plan.specs.Plan.{fold_refusal, kind_of, column_spans, kind_spans, spans_from, plan, bytes_each, bytes_read, wide_shape}
use Rattle.fold.specs.Fold.{fold_by_points, fold_stripes, fold_of, fold_verdict, fold_filled, named, cut_out, wide_data}
use Rattle.shelf.specs.Shelf.{shape_of}
use Rattle.demands.specs.Calls.{Folds}
use Rattle.demands.proofs.Answers.{done}
use Rattle.demands.proofs.Points.{wide, cancelled, parity_columns, folded_columns}
use Rattle.demands.proofs.Worked.{small, bytes}

abbrev old : Shape
old = shape_of 4 4 0 1

-- of the stripes 01 02 03 04 60 9B 1C E3 and 05 06 07 08 77 00 4B 30: stripe 0 is off by 54 8C 47 9E in its parity columns, stripe 1 by 01 in parity
-- column 0
abbrev stale : List (List ℕ)
stale = (0x01 ∷ 0x02 ∷ 0x03 ∷ 0x04 ∷ 0x34 ∷ 0x17 ∷ 0x5B ∷ 0x7D ∷ []) ∷ (0x05 ∷ 0x06 ∷ 0x07 ∷ 0x08 ∷ 0x76 ∷ 0x00 ∷ 0x4B ∷ 0x30 ∷ []) ∷ []

by_points_lem : by_points old ≡ true
unfolding by_points
by_points_lem = refl

-- sum 0 of each
sum_0 : check_sum old (get_or stale 0 []) 0 0 ≡ 0x01
unfolding check_sum sum_at points data_points parity_points across tabulate gpow power ◌⊗◌ shifted doubled ◌⊕◌
sum_0 = refl

sum_1 : check_sum old (get_or stale 1 []) 0 0 ≡ 0x01
unfolding check_sum sum_at points data_points parity_points across tabulate gpow power ◌⊗◌ shifted doubled ◌⊕◌
sum_1 = refl

pub both_stale : (x : ℕ) → x < 2 → Codeword old (get_or stale x []) → ⊥
both_stale zero h w = let e = w.sums by_points_lem 0 0 (lit< tt) (lit< tt) in omega (arith, e, sum_0)
both_stale (suc zero) h w = let e = w.sums by_points_lem 0 0 (lit< tt) (lit< tt) in omega (arith, e, sum_1)
both_stale (suc (suc x)) h w = absurd (omega arith)

-- what the plan names of them are their parity columns
abbrev planned : List ℕ
planned = cut_out old stale (plan old 2 4)

abbrev read : List ℕ
read = 0x34 ∷ 0x17 ∷ 0x5B ∷ 0x7D ∷ 0x76 ∷ 0x00 ∷ 0x4B ∷ 0x30 ∷ []

read_is : planned ≡ read
unfolding cut_out named plan fold_refusal shape_refusal spans_from kind_spans column_spans kind_of
read_is = refl

passed : fold_verdict old 2 4 8 4 ≡ 0
unfolding fold_verdict fold_refusal shape_refusal bytes_read bytes_each kind_of
passed = refl

-- the fold of these
abbrev new : List ℕ
new = 0x7C ∷ 0x16 ∷ 0xAB ∷ 0xC9 ∷ []

columns_folded : fold_of old 2 4 read ≡ fold_columns 4 4 1 ((0x34 ∷ 0x17 ∷ 0x5B ∷ 0x7D ∷ []) ∷ (0x76 ∷ 0x00 ∷ 0x4B ∷ 0x30 ∷ []) ∷ [])
unfolding fold_of fold_stripes fold_by_points kind_of bytes_each by_points parts
columns_folded = refl

new_is : fold_of old 2 4 planned ≡ new
unfolding across
new_is = ap (fold_of old 2 4) read_is ∙ columns_folded ∙ folded_columns 4 _ 0x7C 0x16 0xAB 0xC9 cancelled

-- which is the parity of all data in order
new_codeword : Codeword (wide_shape old 2 4) (wide_data old stale ++ new)
unfolding small wide_data joined across
new_codeword =
    codeword_of (wide_shape old 2 4) (wide_data old stale ++ new) (bytes (wide_data old stale ++ new) tt) refl
    (sym (parity_columns 8 (wide_data old stale) 0x7C 0x16 0xAB 0xC9 wide))

-- Whatever the fold is lent to fill, it answers 0 and the wide stripe is a codeword.
pub both_cancel : (ps : List ℕ) → length ps ≡ 4 → (v : ℕ) (ps' : List ℕ) → Folds 4 4 0 1 2 4 (cut_out old stale (plan old 2 4)) ps v ps'
    → (v ≡ 0) × Codeword (wide_shape old 2 4) (wide_data old stale ++ ps')
unfolding fold_filled
both_cancel ps room v ps' p = (
  p.0 ∙ none,
  subst (λ (qs : List ℕ). Codeword (wide_shape old 2 4) (wide_data old stale ++ qs))
      (sym (p.1 ∙ done (fold_verdict old 2 4 (length planned) (length ps)) (fold_of old 2 4 planned) ps none ∙ new_is)) new_codeword,
)
  where
    none : fold_verdict old 2 4 (length planned) (length ps) ≡ 0
    none = ap (λ (xs : List ℕ). fold_verdict old 2 4 (length xs) (length ps)) read_is ∙ ap (fold_verdict old 2 4 8) room ∙ passed
