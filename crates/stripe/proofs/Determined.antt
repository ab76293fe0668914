-- Any k columns of a codeword determine it: two codewords that agree outside at most r columns are both the stripe mended from one of
-- them. So a codeword that agrees with the survivors is one alone, and mending does not depend on what the lost columns held.
use mathlib.Core.Bool.{false}
use mathlib.Core.Path.{◌≡◌, refl, sym, ◌∙◌, subst}
use mathlib.Core.Logic.{◌↔◌}
use mathlib.Core.List.{List}
use Prim.Native.Nat.{ℕ, ◌≤◌}
use lib.ListN.{length}
use Rattle.field.specs.Bytes.{Bytes}
use Rattle.stripe.specs.declared.Shape.{Shape}
use Rattle.stripe.specs.Shape.{shape_refusal, columns}
use Rattle.stripe.specs.Stripe.{by_points, Codeword, Ascending, Agree}
use Rattle.stripe.proofs.Allowed.{allowed}
use Rattle.stripe.proofs.Mended.{stripe_mended, mended_only, mended_codeword}

pub determined : (s : Shape) → by_points s ≡ false → shape_refusal s ≡ 0 → (es : List ℕ) → Ascending 0 (columns s) es → length es ≤ s.r
    → (xs ys : List ℕ) → Codeword s xs → Codeword s ys → Agree s es xs ys → xs ≡ ys
determined s rows h es asc few xs ys u v agree =
    mended_only s rows (allowed s h) es asc few xs u.bytes xs u (λ c p hc hp n. refl)
    ∙ sym (mended_only s rows (allowed s h) es asc few xs u.bytes ys v agree)

-- a codeword agrees with all survivors exactly when the mended stripe does
pub mendable : (s : Shape) → by_points s ≡ false → shape_refusal s ≡ 0 → (es : List ℕ) → Ascending 0 (columns s) es → length es ≤ s.r → (xs : List ℕ) → Bytes xs
    → ((ys : List ℕ) × (Codeword s ys × Agree s es xs ys)) ↔ Agree s es xs (stripe_mended s es xs)
mendable s rows h es asc few xs b = (
  λ w. subst (Agree s es xs) (mended_only s rows (allowed s h) es asc few xs b w.0 w.1.0 w.1.1) w.1.1,
  λ agree. (stripe_mended s es xs, (mended_codeword s rows (allowed s h) es asc few xs b, agree)),
)

pub agree_sym : (s : Shape) (es xs ys : List ℕ) → Agree s es xs ys → Agree s es ys xs
agree_sym s es xs ys h c p hc hp n = sym (h c p hc hp n)

pub agree_trans : (s : Shape) (es xs ys zs : List ℕ) → Agree s es xs ys → Agree s es ys zs → Agree s es xs zs
agree_trans s es xs ys zs h g c p hc hp n = h c p hc hp n ∙ g c p hc hp n

-- two stripes that differ in the lost columns only are mended to one, where either can be
pub mended_same : (s : Shape) → by_points s ≡ false → shape_refusal s ≡ 0 → (es : List ℕ) → Ascending 0 (columns s) es → length es ≤ s.r
    → (xs ys : List ℕ) → Bytes xs → Bytes ys → Agree s es xs ys → Agree s es xs (stripe_mended s es xs) → stripe_mended s es xs ≡ stripe_mended s es ys
mended_same s rows h es asc few xs ys bx by agree m =
    mended_only s rows (allowed s h) es asc few ys by (stripe_mended s es xs) (mended_codeword s rows (allowed s h) es asc few xs bx)
    (agree_trans s es ys xs (stripe_mended s es xs) (agree_sym s es xs ys agree) m)

pub mendable_same : (s : Shape) → by_points s ≡ false → shape_refusal s ≡ 0 → (es : List ℕ) → Ascending 0 (columns s) es → length es ≤ s.r
    → (xs ys : List ℕ) → Bytes xs → Bytes ys → Agree s es xs ys → Agree s es xs (stripe_mended s es xs) → Agree s es ys (stripe_mended s es ys)
mendable_same s rows h es asc few xs ys bx by agree m =
    subst (Agree s es ys) (mended_same s rows h es asc few xs ys bx by agree m)
    (agree_trans s es ys xs (stripe_mended s es xs) (agree_sym s es xs ys agree) m)
