-- The numbers of an allowed fold are small, so that its products fit a machine's word.
use mathlib.Core.Path.{◌≡◌, refl, sym, ◌∙◌}
use mathlib.Core.Bool.{Bool, true, false, cond, ◌&&◌}
use mathlib.Core.Logic.{◌⊎◌, inl, inr}
use Prim.Native.Nat.{ℕ, ◌-◌, ◌*◌, ◌/◌, ◌<◌, ◌≤◌, ◌^◌}
use native.Mathlib.Nat.{mul-le-mul, div-le_self}
use native.Mathlib.Omega.{arith}
use lib.Dec.{leb}
use mir.Syntax.{w64}
use mir.Val.{Fits}
use Rattle.field.proofs.Cases.{zero_or_not}
use Rattle.stripe.specs.declared.Shape.{Shape}
use Rattle.stripe.specs.Shape.{shape_refusal, most_data, most_rows, most_parity, most_columns, most_length, most_rows_length, most_parity_length}
use Rattle.stripe.proofs.Allowed.{Allowed, Prepared, allowed, rows_most, prepared_by_rows}
use Rattle.plan.specs.declared.Kind.{Kind}
use Rattle.plan.specs.declared.Kind.TheVariants.{A, B, C}
use Rattle.plan.specs.Plan.{fold_refusal, kind_of, columns_each, bytes_each, access_cost, conversion_bandwidth}
use Rattle.plan.proofs.Foldable.{Foldable, foldable, plain_kind}
use Rattle.plan.proofs.Costs.{columns_read_lem, bytes_read_lem, columns_written_lem, bytes_written_lem, bytes_most}
use Rattle.plan.proofs.Refusals.{shape_passed, no_columns, no_bytes, no_columns_written, no_bytes_written}

pub fits : (n : ℕ) → n < 2 ^ 64 → Fits w64 n
fits n h = record { fits = h }

not_b : (b : Bool) → cond b A C ≡ B → ⊥
not_b true e = let z : ◌≡◌ {A = ℕ} 0 1 = cc in omega arith
not_b false e = let z : ◌≡◌ {A = ℕ} 0 1 = cc in omega arith

-- only a prepared shape is of kind B
pub b_prepared : (s : Shape) (f : ℕ) → shape_refusal s ≡ 0 → kind_of s f ≡ B → Prepared s
b_prepared s f passed e = go (allowed s passed).mark
  where
    go : (s.t ≡ 0) ⊎ Prepared s → Prepared s
    go (inl z) = absurd (not_b (leb f s.r && leb f s.k) (sym (plain_kind s f _ z refl) ∙ e))
    go (inr p) = p

module _ (s : Shape) (passed : shape_refusal s ≡ 0) where
  mark_small : s.t ≤ most_rows
  mark_small = go (allowed s passed).mark
    where
      go : (s.t ≡ 0) ⊎ Prepared s → s.t ≤ most_rows
      go (inl e) = omega arith
      go (inr p) = p.mark_most

  pub data_small : s.k ≤ most_data
  data_small = (allowed s passed).data_most

  pub parity_small : s.r ≤ most_parity
  parity_small = (allowed s passed).parity_most

  pub length_small : s.l ≤ most_length
  length_small = (allowed s passed).length_most

  pub run_small : s.l / s.t ≤ most_length
  run_small = omega (arith, div-le_self s.l s.t, length_small)

  rest_small : s.t - s.r ≤ most_rows
  rest_small = omega (arith, mark_small)

  pub new_product : (f : ℕ) → f ≤ most_parity → f * s.l ≤ most_parity_length
  new_product f h = mul-le-mul h length_small

  pub data_product : s.k * s.l ≤ most_data * most_length
  data_product = mul-le-mul data_small length_small

  -- a prepared shape is by rows
  pub first_small : Prepared s → s.r * (s.l / s.t) ≤ most_rows_length
  first_small p = mul-le-mul (rows_most s (allowed s passed) (prepared_by_rows s (allowed s passed) (let g = p.gains in omega arith))) run_small

  pub part_small : (s.t - s.r) * (s.l / s.t) ≤ most_rows_length
  part_small = mul-le-mul rest_small run_small

  pub parts_product : s.k * ((s.t - s.r) * (s.l / s.t)) ≤ most_data * most_rows_length
  parts_product = mul-le-mul data_small part_small

  pub parity_product : s.r * s.l ≤ most_parity_length
  parity_product = new_product s.r parity_small

module _ (s : Shape) (n f : ℕ) (passed : fold_refusal s n f ≡ 0) where
  pub each_small : columns_each (kind_of s f) s f ≤ most_columns
  unfolding columns_each
  each_small = go (kind_of s f)
    where
      able : Foldable s n f
      able = foldable s n f passed

      a : Allowed s
      a = able.shape

      go : (κ : Kind) → columns_each κ s f ≤ most_columns
      go A = omega (arith, able.new_most)
      go B = a.columns_most
      go C = omega (arith, a.data_most)

  pub columns_small : n * columns_each (kind_of s f) s f ≤ 65790
  columns_small = mul-le-mul (foldable s n f passed).stripes_most each_small

  pub bytes_small : n * bytes_each (kind_of s f) s f ≤ most_data * most_length
  bytes_small =
      let h : n * s.k * s.l ≤ most_data * most_length = mul-le-mul (foldable s n f passed).wide_most (foldable s n f passed).shape.length_most in
      omega (arith, bytes_most s n f, bytes_read_lem s n f passed)

-- ---- no sum of what is read and what is written reaches the cap

module _ (s : Shape) (n f : ℕ) where
  pub access_fits : access_cost s n f < 2 ^ 64
  access_fits = go (zero_or_not (fold_refusal s n f))
    where
      go : (fold_refusal s n f ≡ 0) ⊎ (fold_refusal s n f ≡ 0 → ⊥) → access_cost s n f < 2 ^ 64
      go (inl z) = omega (arith, columns_read_lem s n f z, columns_small s n f z, columns_written_lem s n f z, (foldable s n f z).new_most)
      go (inr h) = omega (arith, no_columns s n f h, no_columns_written s n f h)

  pub bandwidth_fits : conversion_bandwidth s n f < 2 ^ 64
  bandwidth_fits = go (zero_or_not (fold_refusal s n f))
    where
      go : (fold_refusal s n f ≡ 0) ⊎ (fold_refusal s n f ≡ 0 → ⊥) → conversion_bandwidth s n f < 2 ^ 64
      go (inl z) =
          let new = new_product s (shape_passed s n f z) f (foldable s n f z).new_most in
          omega (arith, bytes_read_lem s n f z, bytes_small s n f z, bytes_written_lem s n f z, new)
      go (inr h) = omega (arith, no_bytes s n f h, no_bytes_written s n f h)
