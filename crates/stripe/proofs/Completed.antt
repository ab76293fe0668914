-- With r columns lost there is always a codeword that agrees with the survivors: k survivors agree with one codeword.
use mathlib.Core.Bool.{false}
use mathlib.Core.Path.{◌≡◌}
use mathlib.Core.List.{List}
use Prim.Native.Nat.{ℕ, ◌≤◌}
use native.Mathlib.Omega.{arith}
use lib.ListN.{length}
use Rattle.field.specs.Bytes.{Bytes}
use Rattle.stripe.specs.declared.Shape.{Shape}
use Rattle.stripe.specs.Shape.{shape_refusal, columns, stripe_length}
use Rattle.stripe.specs.Stripe.{by_points, Codeword, Ascending, Agree}
use Rattle.stripe.proofs.Allowed.{allowed}
use Rattle.stripe.proofs.Mended.{stripe_mended, mended_codeword, mended_full}

pub completed : (s : Shape) → by_points s ≡ false → shape_refusal s ≡ 0 → (es : List ℕ) → Ascending 0 (columns s) es → length es ≡ s.r
    → (xs : List ℕ) → Bytes xs → length xs ≡ stripe_length s → (ys : List ℕ) × (Codeword s ys × Agree s es xs ys)
completed s rows h es asc full xs b long =
    (stripe_mended s es xs, (mended_codeword s rows (allowed s h) es asc few xs b, mended_full s rows (allowed s h) es asc few xs b full))
  where
    few : length es ≤ s.r
    few = omega arith
