-- By rows: a second sitting of kind A hands on what the first carried. The wide parity is that of all data, and beside it what each narrow stripe
-- carries on; the weight of a group is that of its stripes, so the sum over the groups is the sum over all stripes.
use mathlib.Core.Path.{◌≡◌, sym, ap, ap₂, ◌∙◌, subst}
use mathlib.Core.Bool.{false}
use mathlib.Core.List.{List, [], map, map-map}
use Prim.Native.Nat.{ℕ, ◌+◌, ◌*◌, ◌<◌, ◌≤◌}
use native.Mathlib.Nat.{mul_assoc, mul_comm}
use native.Mathlib.Omega.{arith}
use lib.ListN.{length, get_or}
use Rattle.field.specs.Field.{◌⊕◌}
use Rattle.field.specs.Row.{row}
use Rattle.points.specs.Folding.{joined}
use Rattle.points.proofs.Folded.{map_same_at}
use Rattle.stripe.specs.declared.Shape.{Shape}
use Rattle.stripe.specs.Shape.{stripe_length}
use Rattle.stripe.specs.Stripe.{by_points, parity_byte}
use Rattle.stripe.proofs.Places.{by_places}
use Rattle.plan.specs.declared.Kind.{Kind}
use Rattle.plan.specs.declared.Kind.TheVariants.{A}
use Rattle.plan.specs.Plan.{kind_of, fold_refusal, wide_shape}
use Rattle.plan.proofs.Foldable.{foldable, wide_by_points}
use Rattle.fold.specs.Fold.{wide_data, wide_stripe, disagreement, carried}
use Rattle.fold.proofs.Laws.{fold_length}
use Rattle.fold.proofs.Wide.{answer_is, disagreement_sum}
use Rattle.sittings.specs.Sittings.{Groups, halves}
use Rattle.sittings.proofs.Grouped.{all_rows}
use Rattle.sittings.proofs.Steps.{shape_same, is_a}
use Rattle.sittings.proofs.One.{folded, passed_all, halves_count, halves_long, data_same, stripes_count, stripes_long}

-- what the stripes carry on to place p of wide row j
abbrev pub carried_sum : Kind → Shape → List (List ℕ) → ℕ → ℕ → ℕ
carried_sum κ s zss j p = row (j * s.k) (map (λ zs. carried κ s zs j p) zss)

-- ---- one sitting

module _ (s : Shape) (f : ℕ) (zss : List (List ℕ)) (n : ℕ) (count : length zss ≡ n) (passed : fold_refusal s n f ≡ 0)
    (long : (l : ℕ) → l < length zss → length (get_or zss l []) ≡ stripe_length s) (rows : by_points s ≡ false) (j p : ℕ) (hj : j < f) (hp : p < s.l) where
  pub folded_at : get_or (folded s n f zss) (j * s.l + p) 0 ≡ parity_byte (wide_shape s n f) (wide_data s zss) j p ⊕ carried_sum (kind_of s f) s zss j p
  folded_at =
      subst
      (λ (m : ℕ). get_or (folded s m f zss) (j * s.l + p) 0 ≡ parity_byte (wide_shape s m f) (wide_data s zss) j p ⊕ carried_sum (kind_of s f) s zss j p)
      count (answer_is s f zss (passed_all s f zss n count passed) long rows j p hj hp)

  disagrees : disagreement (wide_shape s n f) (wide_stripe s n f zss) j p ≡ carried_sum (kind_of s f) s zss j p
  disagrees =
      subst (λ (m : ℕ). disagreement (wide_shape s m f) (wide_stripe s m f zss) j p ≡ carried_sum (kind_of s f) s zss j p) count
      (disagreement_sum s f zss (passed_all s f zss n count passed) long rows j p hj hp)

-- ---- two sittings

-- the weight of a group is that of its stripes
weight : (j n k : ℕ) → j * (n * k) ≡ n * (j * k)
weight j n k = sym (mul_assoc j n k) ∙ ap (λ (x : ℕ). x * k) (mul_comm j n) ∙ mul_assoc n j k

module _ (s : Shape) (n₁ f₁ n₂ f₂ : ℕ) (gs : List (List (List ℕ))) (groups : Groups s n₁ n₂ gs)
    (first : fold_refusal s n₁ f₁ ≡ 0) (second : fold_refusal (wide_shape s n₁ f₁) n₂ f₂ ≡ 0) (once : fold_refusal s (n₁ * n₂) f₂ ≡ 0)
    (rows : by_points s ≡ false) where
  abbrev half : Shape
  half = wide_shape s n₁ f₁

  pub once_at : (j p : ℕ) → j < f₂ → p < s.l
      → get_or (folded s (n₁ * n₂) f₂ (joined gs)) (j * s.l + p) 0
      ≡ parity_byte (wide_shape s (n₁ * n₂) f₂) (wide_data s (joined gs)) j p ⊕ carried_sum (kind_of s f₂) s (joined gs) j p
  once_at =
      folded_at s f₂ (joined gs) (n₁ * n₂) (stripes_count s n₁ f₁ n₂ gs groups first) once (stripes_long s n₁ f₁ n₂ gs groups first) rows

  module _ (kind : kind_of half f₂ ≡ A) where
    few : f₂ ≤ f₁
    few = (is_a half f₂ (foldable half n₂ f₂ second).kinds kind).enough

    -- what the half-wide stripes carry on is what the narrow ones do
    handed : (j p : ℕ) → j < f₂ → p < s.l → carried_sum (kind_of half f₂) half (halves s n₁ f₁ gs) j p ≡ carried_sum (kind_of s f₁) s (joined gs) j p
    unfolding halves carried
    handed j p hj hp =
        ap (λ (κ : Kind). carried_sum κ half (halves s n₁ f₁ gs) j p) kind
        ∙ ap₂ row (weight j n₁ s.k)
        (map-map (λ zs. disagreement half zs j p) (λ g. wide_stripe s n₁ f₁ g) gs
        ∙ map_same_at [] (λ g. disagreement half (wide_stripe s n₁ f₁ g) j p) (λ g. carried_sum (kind_of s f₁) s g j p) gs
        (λ i k. disagrees s f₁ (get_or gs i []) n₁ (groups.each i k) first (λ x m. groups.long i x k m) rows j p (let h = few in omega arith) hp))
        ∙ sym (all_rows (j * s.k) n₁ (λ zs. carried (kind_of s f₁) s zs j p) gs groups.each)

    -- two sittings give the parity of one wherever the first is of the kind of the fold at once
    pub handed_on : kind_of s f₁ ≡ kind_of s f₂ → folded half n₂ f₂ (halves s n₁ f₁ gs) ≡ folded s (n₁ * n₂) f₂ (joined gs)
    handed_on e =
        by_places f₂ s.l _ _ (fold_length half n₂ f₂ _ second) (fold_length s (n₁ * n₂) f₂ _ once)
        (λ j p hj hp.
        folded_at half f₂ (halves s n₁ f₁ gs) n₂ (halves_count s n₁ f₁ n₂ gs groups first) second (halves_long s n₁ f₁ n₂ gs groups first)
        (wide_by_points s n₁ f₁ first ∙ rows) j p hj hp
        ∙ ap₂ ◌⊕◌
        (ap₂ (λ (w : Shape) (ds : List ℕ). parity_byte w ds j p) (shape_same s n₁ f₁ n₂ f₂) (data_same s n₁ f₁ n₂ gs groups first))
        (handed j p hj hp ∙ ap (λ (κ : Kind). carried_sum κ s (joined gs) j p) e)
        ∙ sym (once_at j p hj hp))
