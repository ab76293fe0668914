-- By points, kind A: the fold of what the plan names of whole stripes is that of their parity columns. So what crate `equations` knows of folds holds of it.
use mathlib.Core.Path.{◌≡◌, refl, sym, ap, ap₂, ◌∙◌, subst}
use mathlib.Core.Bool.{true}
use mathlib.Core.List.{List, [], ◌++◌, map}
use mathlib.Core.Logic.{◌⊎◌, inl, inr}
use Prim.Native.Nat.{ℕ, ◌+◌, ◌*◌, ◌<◌, ◌≤◌}
use native.Mathlib.Omega.{arith}
use lib.ListN.{length, get_or, drop}
use Rattle.field.specs.Bytes.{Bytes}
use Rattle.field.proofs.Cases.{same_or_not}
use Rattle.points.proofs.Folded.{each_from, map_same_at}
use Rattle.stripe.specs.declared.Shape.{Shape}
use Rattle.stripe.specs.Shape.{stripe_length}
use Rattle.stripe.specs.Stripe.{by_points, parity, Codeword}
use Rattle.stripe.proofs.Codewords.{codeword_parity}
use Rattle.equations.specs.Whole.{fold_columns, Codeword as Zeros, wide_data as columnsData, wide_stripe as columnsStripe}
use Rattle.equations.proofs.Codes.{codeword_zeros, zeros_codeword}
use Rattle.equations.proofs.Folded.{wide_codeword, stale_shows as columns-show}
use Rattle.plan.specs.declared.Kind.{Kind}
use Rattle.plan.specs.declared.Kind.TheVariants.{A}
use Rattle.plan.specs.Plan.{kind_of, fold_refusal, plan, wide_shape}
use Rattle.plan.proofs.Foldable.{Foldable, foldable, wide_by_points}
use Rattle.fold.specs.Fold.{fold_stripes, fold_of, wide_data, cut_out, read_of, wide_stripe}
use Rattle.fold.proofs.Laws.{stripes_columns, fold_is}
use Rattle.fold.proofs.Cut.{a_whole, cut_parts}
use Rattle.fold.proofs.Wide.{wide_data_lem, wide_answer_lem}

-- the data of all stripes in order
data_same : (s : Shape) (zss : List (List ℕ)) → wide_data s zss ≡ columnsData s.k s.l zss
unfolding wide_data columnsData
data_same s zss = refl

-- ---- the fold's answer

module _ (s : Shape) (f : ℕ) (zss : List (List ℕ)) (passed : fold_refusal s (length zss) f ≡ 0)
    (long : (l : ℕ) → l < length zss → length (get_or zss l []) ≡ stripe_length s) (points_here : by_points s ≡ true) where
  abbrev answer : List ℕ
  answer = fold_of s (length zss) f (cut_out s zss (plan s (length zss) f))

  able : Foldable s (length zss) f
  able = foldable s (length zss) f passed

  same : f ≡ s.r
  same = able.new_points points_here

  few : s.r ≤ 255
  few = let h = able.shape.parity_most in omega arith

  answer_is : answer ≡ fold_stripes s f (map (read_of (kind_of s f) s f) zss)
  answer_is = fold_is s (length zss) f _ ∙ ap (fold_stripes s f) (cut_parts s f zss passed long)

  -- kind A: what the plan names of a stripe are all its parity columns, so the wide stripe is that of crate `equations`
  module _ (kind : kind_of s f ≡ A) where
    pub answer_columns : answer ≡ fold_columns s.k s.r s.l (map (λ zs. drop (s.k * s.l) zs) zss)
    answer_columns =
        answer_is ∙ stripes_columns s f (map (read_of (kind_of s f) s f) zss) points_here kind
        ∙ ap (fold_columns s.k s.r s.l)
        (ap₂ (λ (κ : Kind) (g : ℕ). map (read_of κ s g) zss) kind same
        ∙ map_same_at [] (read_of A s s.r) (λ zs. drop (s.k * s.l) zs) zss (λ l h. a_whole s (get_or zss l []) (long l h)))

    wide_same : wide_stripe s (length zss) f zss ≡ columnsStripe s.k s.r s.l zss
    unfolding wide_stripe columnsStripe
    wide_same = ap₂ ◌++◌ (data_same s zss) answer_columns

    by_points_too : by_points (wide_shape s (length zss) f) ≡ true
    by_points_too = wide_by_points s (length zss) f passed ∙ points_here

    wide_zeros : Codeword (wide_shape s (length zss) f) (wide_stripe s (length zss) f zss)
        → Zeros (length zss * s.k) s.r s.l (columnsStripe s.k s.r s.l zss)
    wide_zeros w =
        subst (λ (g : ℕ). Zeros (length zss * s.k) g s.l (columnsStripe s.k s.r s.l zss)) same
        (subst (Zeros (length zss * s.k) f s.l) wide_same (codeword_zeros (wide_shape s (length zss) f) _ by_points_too w))

    zeros_wide : Zeros (length zss * s.k) s.r s.l (columnsStripe s.k s.r s.l zss)
        → Codeword (wide_shape s (length zss) f) (wide_stripe s (length zss) f zss)
    zeros_wide w =
        zeros_codeword (wide_shape s (length zss) f) _ by_points_too
        (subst (Zeros (length zss * s.k) f s.l) (sym wide_same)
        (subst (λ (g : ℕ). Zeros (length zss * s.k) g s.l (columnsStripe s.k s.r s.l zss)) (sym same) w))

    -- so the fold of codewords is the parity of all data in order
    pub columns_parity : ((l : ℕ) → l < length zss → Codeword s (get_or zss l [])) → answer ≡ parity (wide_shape s (length zss) f) (wide_data s zss)
    columns_parity codewords =
        sym (wide_answer_lem s f zss passed long) ∙ codeword_parity (wide_shape s (length zss) f) (wide_stripe s (length zss) f zss) wide
        ∙ ap (parity (wide_shape s (length zss) f)) (wide_data_lem s f zss passed long)
      where
        wide : Codeword (wide_shape s (length zss) f) (wide_stripe s (length zss) f zss)
        wide =
            zeros_wide
            (wide_codeword s.k s.r s.l few zss
            (each_from (Zeros s.k s.r s.l) [] zss (λ l h. codeword_zeros s (get_or zss l []) points_here (codewords l h))))

    -- If all stripes but stripe x are codewords, and it is none, the wide stripe is no codeword.
    pub stale_shows : (x : ℕ) → x < length zss → ((l : ℕ) → l < length zss → (l ≡ x → ⊥) → Codeword s (get_or zss l [])) → Bytes (get_or zss x [])
        → (Codeword s (get_or zss x []) → ⊥) → Codeword (wide_shape s (length zss) f) (wide_stripe s (length zss) f zss) → ⊥
    stale_shows x is others bytes stale w =
        columns-show s.k s.r s.l few zss x is (each_from Bytes [] zss all_bytes)
        (each_from (λ zs. length zs ≡ (s.k + s.r) * s.l) [] zss long)
        (λ l h ne. codeword_zeros s (get_or zss l []) points_here (others l h ne))
        (λ z. stale (zeros_codeword s (get_or zss x []) points_here z)) (wide_zeros w)
      where
        all_bytes : (l : ℕ) → l < length zss → Bytes (get_or zss l [])
        all_bytes l h = go (same_or_not l x)
          where
            go : (l ≡ x) ⊎ (l ≡ x → ⊥) → Bytes (get_or zss l [])
            go (inl e) = subst (λ (y : ℕ). Bytes (get_or zss y [])) (sym e) bytes
            go (inr ne) = (others l h ne).bytes
