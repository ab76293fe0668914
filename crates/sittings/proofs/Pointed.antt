-- By points, every step of kind A: the parity of each sitting is the fold of parity columns, of which crate `equations` knows that two sittings are
-- one.
use mathlib.Core.Path.{◌≡◌, sym, ap, ap₂, ◌∙◌, subst}
use mathlib.Core.Bool.{true}
use mathlib.Core.List.{List, [], map, map-map}
use Prim.Native.Nat.{ℕ, ◌*◌, ◌<◌, ◌≤◌}
use native.Mathlib.Omega.{arith}
use lib.ListN.{length, get_or, drop, length-map}
use Rattle.points.specs.Folding.{Each, joined}
use Rattle.points.proofs.Joined.{map_joined, get_or_mapped}
use Rattle.points.proofs.Folded.{each_from, map_same_at}
use Rattle.stripe.specs.declared.Shape.{Shape}
use Rattle.stripe.specs.Shape.{stripe_length}
use Rattle.stripe.specs.Stripe.{by_points, parity_of}
use Rattle.equations.specs.Whole.{fold_columns}
use Rattle.equations.proofs.Folded.{two_sittings}
use Rattle.plan.specs.declared.Kind.TheVariants.{A}
use Rattle.plan.specs.Plan.{kind_of, fold_refusal, wide_shape}
use Rattle.plan.proofs.Foldable.{foldable, wide_by_points}
use Rattle.fold.specs.Fold.{wide_stripe}
use Rattle.fold.proofs.Wide.{wide_answer_lem}
use Rattle.fold.proofs.Pointed.{answer_columns}
use Rattle.sittings.specs.Sittings.{Groups, halves}
use Rattle.sittings.proofs.Steps.{same_new}
use Rattle.sittings.proofs.One.{folded, passed_all, halves_count, halves_long, stripes_count, stripes_long}

-- the parity columns of each stripe
abbrev parities : Shape → List (List ℕ) → List (List ℕ)
parities s zss = map (λ zs. drop (s.k * s.l) zs) zss

-- ---- one sitting

module _ (s : Shape) (f : ℕ) (zss : List (List ℕ)) (n : ℕ) (count : length zss ≡ n) (passed : fold_refusal s n f ≡ 0)
    (long : (l : ℕ) → l < length zss → length (get_or zss l []) ≡ stripe_length s) (points_here : by_points s ≡ true) (kind : kind_of s f ≡ A) where
  folded_columns : folded s n f zss ≡ fold_columns s.k s.r s.l (parities s zss)
  folded_columns =
      subst (λ (m : ℕ). folded s m f zss ≡ fold_columns s.k s.r s.l (parities s zss)) count
      (answer_columns s f zss (passed_all s f zss n count passed) long points_here kind)

  -- the parity columns of the wide stripe
  wide_parity : drop (n * s.k * s.l) (wide_stripe s n f zss) ≡ fold_columns s.k s.r s.l (parities s zss)
  wide_parity =
      subst (λ (m : ℕ). parity_of (wide_shape s m f) (wide_stripe s m f zss) ≡ folded s m f zss) count
      (wide_answer_lem s f zss (passed_all s f zss n count passed) long)
      ∙ folded_columns

-- ---- two sittings

module _ (s : Shape) (n₁ f₁ n₂ f₂ : ℕ) (gs : List (List (List ℕ))) (groups : Groups s n₁ n₂ gs)
    (first : fold_refusal s n₁ f₁ ≡ 0) (second : fold_refusal (wide_shape s n₁ f₁) n₂ f₂ ≡ 0) (once : fold_refusal s (n₁ * n₂) f₂ ≡ 0)
    (points_here : by_points s ≡ true) (kind₁ : kind_of s f₁ ≡ A) (kind₂ : kind_of (wide_shape s n₁ f₁) f₂ ≡ A) (kind : kind_of s f₂ ≡ A) where
  abbrev half : Shape
  half = wide_shape s n₁ f₁

  same : f₁ ≡ s.r
  same = (same_new s n₁ f₁ n₂ f₂ first second points_here).0

  most : s.r ≤ 255
  most = let h = (foldable s n₁ f₁ first).shape.parity_most in omega arith

  -- the parity columns of the half-wide stripes
  halves_parities : parities half (halves s n₁ f₁ gs) ≡ map (fold_columns s.k s.r s.l) (map (λ g. parities s g) gs)
  unfolding halves
  halves_parities =
      map-map (λ zs. drop (n₁ * s.k * s.l) zs) (λ g. wide_stripe s n₁ f₁ g) gs
      ∙ map_same_at [] _ (λ g. fold_columns s.k s.r s.l (parities s g)) gs
      (λ i k. wide_parity s f₁ (get_or gs i []) n₁ (groups.each i k) first (λ x m. groups.long i x k m) points_here kind₁)
      ∙ sym (map-map (fold_columns s.k s.r s.l) (λ g. parities s g) gs)

  counts : Each (λ pss. length pss ≡ n₁) (map (λ g. parities s g) gs)
  counts =
      each_from (λ pss. length pss ≡ n₁) [] (map (λ g. parities s g) gs)
      (λ i h.
      let k : i < length gs = subst (λ (x : ℕ). i < x) (length-map gs (λ g. parities s g)) h in
      ap length (get_or_mapped (λ g. parities s g) [] [] gs i k) ∙ length-map (get_or gs i []) (λ zs. drop (s.k * s.l) zs) ∙ groups.each i k)

  pub columns_on : folded half n₂ f₂ (halves s n₁ f₁ gs) ≡ folded s (n₁ * n₂) f₂ (joined gs)
  columns_on =
      folded_columns half f₂ (halves s n₁ f₁ gs) n₂ (halves_count s n₁ f₁ n₂ gs groups first) second (halves_long s n₁ f₁ n₂ gs groups first)
      (wide_by_points s n₁ f₁ first ∙ points_here) kind₂
      ∙ ap₂ (λ (r : ℕ) (pss : List (List ℕ)). fold_columns (n₁ * s.k) r s.l pss) same halves_parities
      ∙ two_sittings s.k s.r s.l n₁ (map (λ g. parities s g) gs) most counts
      ∙ ap (fold_columns s.k s.r s.l) (sym (map_joined (λ zs. drop (s.k * s.l) zs) gs))
      ∙ sym (folded_columns s f₂ (joined gs) (n₁ * n₂) (stripes_count s n₁ f₁ n₂ gs groups first) once (stripes_long s n₁ f₁ n₂ gs groups first)
      points_here kind)
