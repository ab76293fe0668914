-- Folds of kind A with r above 3: what the plan names of a stripe are all its parity columns, so the sums of the new parity are those of the old.
use Prim.Native.Nat.{ℕ, ◌*◌, ◌<◌, ◌≤◌}
use mathlib.Core.Path.{◌≡◌, ap, ap₂, ◌∙◌}
use mathlib.Core.Bool.{true}
use mathlib.Core.Logic.{◌⊎◌, inl, inr}
use mathlib.Core.List.{List, [], map, map-map}
use native.Mathlib.Omega.{arith}
use lib.ListN.{length, get_or}
use Rattle.field.specs.Row.{row}
use Rattle.points.specs.Points.{parity_sum}
use Rattle.points.specs.Folding.{fold_sum}
use Rattle.points.proofs.Folded.{each_from, map_same, fold_sums}
use Rattle.stripe.specs.declared.Shape.{Shape}
use Rattle.stripe.specs.Shape.{most_rows, stripe_length}
use Rattle.stripe.specs.Stripe.{by_points, across, parity_of}
use Rattle.stripe.proofs.Allowed.{many_by_points}
use Rattle.equations.specs.Whole.{fold_columns}
use Rattle.equations.proofs.Folded.{fold_columns_across}
use Rattle.plan.specs.declared.Kind.{Kind}
use Rattle.plan.specs.declared.Kind.TheVariants.{A}
use Rattle.plan.specs.Plan.{kind_of, fold_refusal, plan}
use Rattle.plan.proofs.Foldable.{IsA, IsB, IsC, Foldable, foldable}
use Rattle.fold.specs.Fold.{fold_stripes, fold_of, cut_out, read_of}
use Rattle.fold.proofs.Laws.{stripes_columns, fold_is}
use Rattle.fold.proofs.Cut.{a_whole, cut_parts}

module _ (s : Shape) (n f : ℕ) (passed : fold_refusal s n f ≡ 0) (above : most_rows < s.r) where
  able : Foldable s n f
  able = foldable s n f passed

  pub points_here : by_points s ≡ true
  points_here = many_by_points s above able.shape.parity_most

  -- with k >= r it is of kind A
  pub from_parity : s.r ≤ s.k → kind_of s f ≡ A
  from_parity enough = go able.kinds
    where
      same : f ≡ s.r
      same = able.new_points points_here

      neither : (s.r < f) ⊎ (s.k < f) → ⊥
      neither (inl h) = omega (arith, same)
      neither (inr h) = omega (arith, same)

      go : IsA s f ⊎ (IsB s f ⊎ IsC s f) → kind_of s f ≡ A
      go (inl h) = h.kind
      go (inr (inl h)) = absurd (omega (arith, above, h.prepared.gains, h.prepared.mark_most))
      go (inr (inr h)) = absurd (neither h.more)

module _ (s : Shape) (f : ℕ) (zss : List (List ℕ)) (passed : fold_refusal s (length zss) f ≡ 0) (above : most_rows < s.r) (enough : s.r ≤ s.k)
    (long : (x : ℕ) → x < length zss → length (get_or zss x []) ≡ stripe_length s) where
  abbrev answer : List ℕ
  answer = fold_of s (length zss) f (cut_out s zss (plan s (length zss) f))

  kind : kind_of s f ≡ A
  kind = from_parity s (length zss) f passed above enough

  same : f ≡ s.r
  same = (able s (length zss) f passed above).new_points (points_here s (length zss) f passed above)

  few : s.r ≤ 255
  few = omega (arith, (able s (length zss) f passed above).shape.parity_most)

  -- what is read of a stripe
  abbrev read : List ℕ → List ℕ
  read zs = read_of A s s.r zs

  answer_columns : answer ≡ fold_columns s.k s.r s.l (map read zss)
  answer_columns =
      fold_is s (length zss) f _ ∙ ap (fold_stripes s f) (cut_parts s f zss passed long)
      ∙ stripes_columns s f (map (read_of (kind_of s f) s f) zss) (points_here s (length zss) f passed above) kind
      ∙ ap₂ (λ (κ : Kind) (g : ℕ). fold_columns s.k s.r s.l (map (read_of κ s g) zss)) kind same

  -- at each place sum u of the answer, from sum u of each stripe's parity
  pub new_sums : (p u : ℕ) → p < s.l → u < s.r
      → parity_sum u (across answer s.l p 0 s.r) ≡ row (s.k * u) (map (λ zs. parity_sum u (across (parity_of s zs) s.l p 0 s.r)) zss)
  unfolding fold_sum
  new_sums p u hp hu =
      ap (parity_sum u)
      (ap (λ (ps : List ℕ). across ps s.l p 0 s.r) answer_columns ∙ fold_columns_across s.k s.r s.l (map read zss) p hp)
      ∙ fold_sums s.k s.r (map at (map read zss)) few u hu
      ∙ ap (row (s.k * u))
      (map-map (parity_sum u) at (map read zss) ∙ map-map (λ ps. parity_sum u (at ps)) read zss
      ∙ map_same (λ zs. parity_sum u (at (read zs))) (λ zs. parity_sum u (at (parity_of s zs))) (λ zs. length zs ≡ stripe_length s)
      (λ zs e. ap (λ (ps : List ℕ). parity_sum u (at ps)) (a_whole s zs e)) zss
      (each_from (λ zs. length zs ≡ stripe_length s) [] zss long))
    where
      at : List ℕ → List ℕ
      at ps = across ps s.l p 0 s.r
