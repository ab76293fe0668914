-- The laws of codewords for every allowed shape, by rows and by check equations alike: any k columns determine a codeword, and any bytes in any k columns
-- belong to one.
use mathlib.Core.Path.{◌≡◌, refl, sym, ◌∙◌}
use mathlib.Core.Bool.{Bool, true, false, true≢false}
use mathlib.Core.List.{List}
use Prim.Native.Nat.{ℕ, ◌≤◌}
use lib.ListN.{length}
use Rattle.field.specs.Bytes.{Bytes}
use Rattle.stripe.specs.declared.Shape.{Shape}
use Rattle.stripe.specs.Shape.{shape_refusal, columns, stripe_length}
use Rattle.stripe.specs.Stripe.{by_points, check_sum, Codeword, Ascending, Agree}
use Rattle.stripe.proofs.Allowed.{allowed, points_fit}
use Rattle.stripe.proofs.Determined.{determined as determined-by-rows}
use Rattle.stripe.proofs.Completed.{completed as completed-by-rows}
use Rattle.equations.specs.Whole.{sum_of, Codeword as Zeros}
use Rattle.equations.proofs.Mended.{determined as determined-by-points, completed as completed-by-points}

-- by check equations a codeword is a stripe whose sums are zero
pub codeword_zeros : (s : Shape) (xs : List ℕ) → by_points s ≡ true → Codeword s xs → Zeros s.k s.r s.l xs
unfolding sum_of check_sum
codeword_zeros s xs e w = record { bytes = w.bytes; long = w.long; zero_sums = λ p u hp hu. w.sums e p u hp hu }

pub zeros_codeword : (s : Shape) (xs : List ℕ) → by_points s ≡ true → Zeros s.k s.r s.l xs → Codeword s xs
unfolding sum_of check_sum
zeros_codeword s xs e w =
    record { bytes = w.bytes; long = w.long; exact = λ f. absurd (true≢false (sym e ∙ f)); sums = λ f p u hp hu. w.zero_sums p u hp hu }

module _ (s : Shape) (h : shape_refusal s ≡ 0) (es : List ℕ) (asc : Ascending 0 (columns s) es) where
  -- any k columns determine a codeword
  pub determined : length es ≤ s.r → (xs ys : List ℕ) → Codeword s xs → Codeword s ys → Agree s es xs ys → xs ≡ ys
  determined few xs ys u v agree = go (by_points s) refl
    where
      go : (b : Bool) → by_points s ≡ b → xs ≡ ys
      go false e = determined-by-rows s e h es asc few xs ys u v agree
      go true e =
          determined-by-points s.k s.r s.l (points_fit s (allowed s h) e) es asc few xs ys (codeword_zeros s xs e u) (codeword_zeros s ys e v) agree

  -- any bytes in any k columns belong to one
  pub completed : length es ≡ s.r → (xs : List ℕ) → Bytes xs → length xs ≡ stripe_length s → (ys : List ℕ) × (Codeword s ys × Agree s es xs ys)
  completed full xs b long = go (by_points s) refl
    where
      go : (b : Bool) → by_points s ≡ b → (ys : List ℕ) × (Codeword s ys × Agree s es xs ys)
      go false e = completed-by-rows s e h es asc full xs b long
      go true e =
          let w = completed-by-points s.k s.r s.l (points_fit s (allowed s h) e) es asc full xs b in
          (w.0, (zeros_codeword s w.0 e w.1.0, w.1.1))
