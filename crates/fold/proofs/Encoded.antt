-- Kind C: the fold is the parity of the wide stripe whose data are the bytes read, and these are all data in order.
use mathlib.Core.Path.{◌≡◌, refl, sym, ap, ap₂, ◌∙◌}
use mathlib.Core.Bool.{Bool, true, false}
use mathlib.Core.List.{List, [], map}
use Prim.Native.Nat.{ℕ, ◌+◌, ◌*◌, ◌<◌}
use native.Mathlib.Nat.{mul_assoc}
use lib.ListN.{length, get_or}
use borrow.Author.Tests.{eq-eqb}
use Rattle.field.specs.Row.{row}
use Rattle.stripe.specs.declared.Shape.{Shape}
use Rattle.stripe.specs.Shape.{stripe_length}
use Rattle.stripe.specs.Column.{lent_refusal}
use Rattle.coding.specs.Encode.{encoded_by_rows}
use Rattle.coding.proofs.Encoded.{encoded_done, encoded_by_rows_lem}
use Rattle.stripe.specs.Stripe.{across, by_points, row_at, parity, data_of}
use Rattle.stripe.proofs.Places.{parity_exact}
use Rattle.plan.specs.declared.Kind.{Kind}
use Rattle.plan.specs.declared.Kind.TheVariants.{C}
use Rattle.plan.specs.Plan.{fold_refusal, kind_of, plan, bytes_each, bytes_read, wide_shape}
use Rattle.fold.specs.Fold.{fold_byte, fold_of, wide_data, cut_out, read_of}
use Rattle.points.specs.Folding.{joined, parts}
use Rattle.points.proofs.Joined.{parts_count, parts_each, joined_parts}
use Rattle.points.proofs.Folded.{map_same_at}
use Rattle.plan.proofs.Foldable.{Foldable, foldable, wide_by_points, wide_allowed}
use Rattle.plan.proofs.Costs.{bytes_read_lem}
use Rattle.fold.proofs.Cut.{c_whole, cut_joined, cut_length}
use Rattle.fold.proofs.Sums.{all_read}
use Rattle.fold.proofs.Wide.{wide_parity}
use Rattle.fold.proofs.Laws.{stripes_data, fold_is, fold_length, fold_at}

module _ (s : Shape) (n f : ℕ) (passed : fold_refusal s n f ≡ 0) where
  able : Foldable s n f
  able = foldable s n f passed

  module _ (xs : List ℕ) (kind : kind_of s f ≡ C) (long : length xs ≡ bytes_read s n f) where
    long_each : length xs ≡ n * bytes_each (kind_of s f) s f
    long_each = long ∙ bytes_read_lem s n f passed

    long_is : length xs ≡ n * (s.k * s.l)
    unfolding bytes_each
    long_is = long_each ∙ ap (λ (κ : Kind). n * bytes_each κ s f) kind

    row_is : (j p : ℕ) → row_at (wide_shape s n f) xs j p ≡ row j (across xs s.l p 0 (n * s.k))
    unfolding row_at
    row_is j p = refl

    -- by rows
    at_is : by_points s ≡ false → (j p : ℕ) → j < f → p < s.l → get_or (fold_of s n f xs) (j * s.l + p) 0 ≡ fold_byte C s (parts (s.k * s.l) n xs) j p
    unfolding bytes_each
    at_is rows j p hj hp = fold_at s n f xs rows j p hj hp ∙ ap (λ (κ : Kind). fold_byte κ s (parts (bytes_each κ s f) n xs) j p) kind

    rows_parity : by_points s ≡ false → fold_of s n f xs ≡ parity (wide_shape s n f) xs
    rows_parity rows =
        parity_exact (wide_shape s n f) xs (fold_of s n f xs) (fold_length s n f xs passed)
        (λ j p hj hp.
        at_is rows j p hj hp
        ∙ all_read s (parts (s.k * s.l) n xs) j p hp (parts_each (s.k * s.l) n xs long_is)
        ∙ ap₂ (λ (zs : List ℕ) (c : ℕ). row j (across zs s.l p 0 (c * s.k))) (joined_parts (s.k * s.l) n xs long_is) (parts_count (s.k * s.l) n xs)
        ∙ sym (wide_parity s n f xs j p (wide_by_points s n f passed ∙ rows) able.new_some hp ∙ row_is j p))

    -- by points
    points_parity : by_points s ≡ true → fold_of s n f xs ≡ parity (wide_shape s n f) xs
    points_parity points_here =
        let each = bytes_each (kind_of s f) s f in
        fold_is s n f xs ∙ stripes_data s f (parts each n xs) points_here kind
        ∙ ap₂ (λ (m : ℕ) (ys : List ℕ). parity (wide_shape s m f) ys) (parts_count each n xs) (joined_parts each n xs long_each)

    pub fold_parity_lem : fold_of s n f xs ≡ parity (wide_shape s n f) xs
    fold_parity_lem = go (by_points s) refl
      where
        go : (b : Bool) → by_points s ≡ b → fold_of s n f xs ≡ parity (wide_shape s n f) xs
        go false e = rows_parity e
        go true e = points_parity e

    -- so encoding, by rows, fills in the fold's answer
    pub wide_lent : (b : ℕ) → b ≡ f * s.l → lent_refusal (wide_shape s n f) (length xs) b ≡ 0
    unfolding lent_refusal
    wide_lent b e =
        let d : length xs ≡ n * s.k * s.l = long_is ∙ sym (mul_assoc n s.k s.l) in
        simp (eq-eqb _ _ (wide_allowed s n f passed), eq-eqb _ _ d, eq-eqb _ _ e)

    pub encoded_fold : by_points s ≡ false → (ys : List ℕ) → length ys ≡ f * s.l → encoded_by_rows (wide_shape s n f) xs ys ≡ fold_of s n f xs
    encoded_fold rows ys e =
        encoded_by_rows_lem (wide_shape s n f) xs ys (able.new_rows rows)
        ∙ sym (encoded_done (wide_shape s n f) xs ys (wide_lent (length ys) e)) ∙ sym fold_parity_lem

-- ---- whole stripes

module _ (s : Shape) (f : ℕ) (zss : List (List ℕ)) (passed : fold_refusal s (length zss) f ≡ 0)
    (long : (l : ℕ) → l < length zss → length (get_or zss l []) ≡ stripe_length s) (kind : kind_of s f ≡ C) where
  -- what the plan names are all data in order
  named_data : cut_out s zss (plan s (length zss) f) ≡ wide_data s zss
  unfolding wide_data
  named_data =
      cut_joined s f zss passed long
      ∙ ap joined
      (ap (λ (κ : Kind). map (read_of κ s f) zss) kind
      ∙ map_same_at [] (read_of C s f) (λ zs. data_of s zs) zss (λ l h. c_whole s (get_or zss l []) (long l h) f))

  -- so the fold is the parity of all data in order, whatever the parity columns hold
  pub data_parity : fold_of s (length zss) f (cut_out s zss (plan s (length zss) f)) ≡ parity (wide_shape s (length zss) f) (wide_data s zss)
  data_parity =
      fold_parity_lem s (length zss) f passed (cut_out s zss (plan s (length zss) f)) kind (cut_length s f zss passed long)
      ∙ ap (parity (wide_shape s (length zss) f)) named_data
