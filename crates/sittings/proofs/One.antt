-- One sitting, the number of its stripes by name: how long the wide stripe is, its data, and what its parity is where the kind is C or the stripes are
-- codewords. And the half-wide stripes of the first of two.
use mathlib.Core.Path.{◌≡◌, sym, ap, ap₂, ◌∙◌, subst}
use mathlib.Core.List.{List, [], ◌++◌, map-map}
use Prim.Native.Nat.{ℕ, ◌*◌, ◌<◌}
use lib.ListN.{length, get_or, length-map}
use Rattle.field.specs.Bytes.{Bytes}
use Rattle.points.specs.Folding.{joined}
use Rattle.points.proofs.Joined.{get_or_mapped}
use Rattle.points.proofs.Folded.{map_same_at}
use Rattle.stripe.specs.declared.Shape.{Shape}
use Rattle.stripe.specs.Shape.{stripe_length}
use Rattle.stripe.specs.Stripe.{data_of, parity, Codeword}
use Rattle.stripe.proofs.Codewords.{codeword_of}
use Rattle.plan.specs.declared.Kind.TheVariants.{C}
use Rattle.plan.specs.Plan.{kind_of, fold_refusal, plan, wide_shape}
use Rattle.fold.specs.Fold.{fold_of, wide_data, cut_out, wide_stripe}
use Rattle.fold.proofs.Wide.{wide_data_lem, wide_answer_lem}
use Rattle.fold.proofs.Encoded.{data_parity}
use Rattle.fold.proofs.Shows.{wide_all, wide_length, folded_parity, folded_codeword}
use Rattle.sittings.specs.Sittings.{Groups, Codewords, halves, in_two, at_once, by_definition}
use Rattle.sittings.proofs.Grouped.{every, all_count, all_data}
use Rattle.sittings.proofs.Steps.{shape_same}

-- ---- one sitting

-- the parity of the wide stripe
abbrev pub folded : Shape → ℕ → ℕ → List (List ℕ) → List ℕ
folded s n f zss = fold_of s n f (cut_out s zss (plan s n f))

-- it is the parity of all data in order
abbrev pub Exact : Shape → ℕ → ℕ → List (List ℕ) → Type 0
Exact s n f zss = folded s n f zss ≡ parity (wide_shape s n f) (wide_data s zss)

module _ (s : Shape) (f : ℕ) (zss : List (List ℕ)) (n : ℕ) (count : length zss ≡ n) (passed : fold_refusal s n f ≡ 0) where
  pub passed_all : fold_refusal s (length zss) f ≡ 0
  passed_all = subst (λ (m : ℕ). fold_refusal s m f ≡ 0) (sym count) passed

  module _ (long : (l : ℕ) → l < length zss → length (get_or zss l []) ≡ stripe_length s) where
    pub stripe_long : length (wide_stripe s n f zss) ≡ stripe_length (wide_shape s n f)
    stripe_long = subst (λ (m : ℕ). length (wide_stripe s m f zss) ≡ stripe_length (wide_shape s m f)) count (wide_length s f zss passed_all long)

    pub stripe_data : data_of (wide_shape s n f) (wide_stripe s n f zss) ≡ wide_data s zss
    stripe_data = subst (λ (m : ℕ). data_of (wide_shape s m f) (wide_stripe s m f zss) ≡ wide_data s zss) count (wide_data_lem s f zss passed_all long)

    pub data_exact : kind_of s f ≡ C → Exact s n f zss
    data_exact kind = subst (λ (m : ℕ). Exact s m f zss) count (data_parity s f zss passed_all long kind)

    -- kind C: the wide stripe is a codeword, whatever the parity columns held
    pub data_codeword : kind_of s f ≡ C → ((l : ℕ) → l < length zss → Bytes (get_or zss l [])) → Codeword (wide_shape s n f) (wide_stripe s n f zss)
    data_codeword kind bytes =
        subst (λ (m : ℕ). Codeword (wide_shape s m f) (wide_stripe s m f zss)) count
        (codeword_of (wide_shape s (length zss) f) (wide_stripe s (length zss) f zss) (wide_all s f zss bytes) (wide_length s f zss passed_all long)
        (wide_answer_lem s f zss passed_all long ∙ data_parity s f zss passed_all long kind
        ∙ ap (parity (wide_shape s (length zss) f)) (sym (wide_data_lem s f zss passed_all long))))

  pub stripe_bytes : ((l : ℕ) → l < length zss → Bytes (get_or zss l [])) → Bytes (wide_stripe s n f zss)
  stripe_bytes bytes = subst (λ (m : ℕ). Bytes (wide_stripe s m f zss)) count (wide_all s f zss bytes)

  -- codewords
  module _ (codewords : (l : ℕ) → l < length zss → Codeword s (get_or zss l [])) where
    pub codewords_exact : Exact s n f zss
    codewords_exact = subst (λ (m : ℕ). Exact s m f zss) count (folded_parity s f zss passed_all codewords)

    pub stripe_codeword : Codeword (wide_shape s n f) (wide_stripe s n f zss)
    stripe_codeword = subst (λ (m : ℕ). Codeword (wide_shape s m f) (wide_stripe s m f zss)) count (folded_codeword s f zss passed_all codewords)

-- ---- the half-wide stripes

module _ (s : Shape) (n₁ f₁ n₂ : ℕ) (gs : List (List (List ℕ))) (groups : Groups s n₁ n₂ gs) (first : fold_refusal s n₁ f₁ ≡ 0) where
  abbrev half : Shape
  half = wide_shape s n₁ f₁

  pub halves_count : length (halves s n₁ f₁ gs) ≡ n₂
  unfolding halves
  halves_count = length-map gs (λ g. wide_stripe s n₁ f₁ g) ∙ groups.many

  pub within : (i : ℕ) → i < length (halves s n₁ f₁ gs) → i < length gs
  within i h = subst (λ (x : ℕ). i < x) (halves_count ∙ sym groups.many) h

  -- what holds of the wide stripe of each group holds of each of them
  pub of_each : (P : List ℕ → Type 0) → ((i : ℕ) → i < length gs → P (wide_stripe s n₁ f₁ (get_or gs i [])))
      → (i : ℕ) → i < length (halves s n₁ f₁ gs) → P (get_or (halves s n₁ f₁ gs) i [])
  unfolding halves
  of_each P h i m = subst P (sym (get_or_mapped (λ g. wide_stripe s n₁ f₁ g) [] [] gs i (within i m))) (h i (within i m))

  pub halves_long : (i : ℕ) → i < length (halves s n₁ f₁ gs) → length (get_or (halves s n₁ f₁ gs) i []) ≡ stripe_length half
  halves_long =
      of_each (λ (zs : List ℕ). length zs ≡ stripe_length half)
      (λ i k. stripe_long s f₁ (get_or gs i []) n₁ (groups.each i k) first (λ x m. groups.long i x k m))

  pub halves_bytes : (i : ℕ) → i < length (halves s n₁ f₁ gs) → Bytes (get_or (halves s n₁ f₁ gs) i [])
  halves_bytes = of_each Bytes (λ i k. stripe_bytes s f₁ (get_or gs i []) n₁ (groups.each i k) first (λ x m. groups.bytes i x k m))

  -- they are codewords if the narrow stripes are
  pub codewords_halves : Codewords s gs → (i : ℕ) → i < length (halves s n₁ f₁ gs) → Codeword half (get_or (halves s n₁ f₁ gs) i [])
  codewords_halves codewords =
      of_each (Codeword half) (λ i k. stripe_codeword s f₁ (get_or gs i []) n₁ (groups.each i k) first (λ x m. codewords i x k m))

  -- and if the first sitting is of kind C
  pub data_halves : kind_of s f₁ ≡ C → (i : ℕ) → i < length (halves s n₁ f₁ gs) → Codeword half (get_or (halves s n₁ f₁ gs) i [])
  data_halves kind =
      of_each (Codeword half)
      (λ i k. data_codeword s f₁ (get_or gs i []) n₁ (groups.each i k) first (λ x m. groups.long i x k m) kind (λ x m. groups.bytes i x k m))

  -- their data are all data in order
  pub data_same : wide_data half (halves s n₁ f₁ gs) ≡ wide_data s (joined gs)
  unfolding wide_data halves
  data_same =
      ap joined
      (map-map (λ zs. data_of half zs) (λ g. wide_stripe s n₁ f₁ g) gs
      ∙ map_same_at [] (λ g. data_of half (wide_stripe s n₁ f₁ g)) (λ g. wide_data s g) gs
      (λ i k. stripe_data s f₁ (get_or gs i []) n₁ (groups.each i k) first (λ x m. groups.long i x k m)))
      ∙ sym (all_data s gs)

  -- ---- all stripes

  pub stripes_count : length (joined gs) ≡ n₁ * n₂
  stripes_count = all_count n₁ n₂ gs groups.many groups.each

  pub stripes_long : (x : ℕ) → x < length (joined gs) → length (get_or (joined gs) x []) ≡ stripe_length s
  stripes_long = every (λ (zs : List ℕ). length zs ≡ stripe_length s) gs groups.long

  -- ---- the wide stripe

  -- by two sittings and at once it is the same if its parity is
  pub stripes_same : (f₂ : ℕ) → folded half n₂ f₂ (halves s n₁ f₁ gs) ≡ folded s (n₁ * n₂) f₂ (joined gs) → in_two s n₁ f₁ n₂ f₂ gs ≡ at_once s (n₁ * n₂) f₂ gs
  unfolding in_two at_once wide_stripe
  stripes_same f₂ e = ap₂ ◌++◌ data_same e

  -- by two sittings it is the one by definition if the second gives the parity of the data that it finds
  pub two_exact : (f₂ : ℕ) → Exact half n₂ f₂ (halves s n₁ f₁ gs) → in_two s n₁ f₁ n₂ f₂ gs ≡ by_definition s (n₁ * n₂) f₂ gs
  unfolding in_two by_definition wide_stripe
  two_exact f₂ e = ap₂ ◌++◌ data_same (e ∙ ap₂ parity (shape_same s n₁ f₁ n₂ f₂) data_same)

  pub once_exact : (f₂ : ℕ) → Exact s (n₁ * n₂) f₂ (joined gs) → at_once s (n₁ * n₂) f₂ gs ≡ by_definition s (n₁ * n₂) f₂ gs
  unfolding at_once by_definition wide_stripe
  once_exact f₂ e = ap (λ (ps : List ℕ). wide_data s (joined gs) ++ ps) e
