-- The offsets of the runs and parts of a prepared stripe are small, so that they fit a machine's word.
use mathlib.Core.Path.{◌≡◌}
use mathlib.Core.Logic.{◌⊎◌, inl, inr}
use Prim.Native.Nat.{ℕ, ◌-◌, ◌*◌, ◌/◌, ◌<◌, ◌≤◌}
use native.Mathlib.Nat.{mul-le-mul}
use native.Mathlib.Omega.{arith}
use Rattle.stripe.specs.declared.Shape.{Shape}
use Rattle.stripe.specs.Shape.{shape_refusal, most_rows, most_length}
use Rattle.stripe.specs.Stripe.{run_length}
use Rattle.stripe.proofs.Allowed.{Prepared, allowed}
use Rattle.plan.proofs.Bounds.{data_small, run_small, part_small}
use Rattle.fold.specs.Fold.{part_bytes}

module _ (s : Shape) (passed : shape_refusal s ≡ 0) where
  -- a shape with a mark is prepared
  pub mark_prepared : 0 < s.t → Prepared s
  mark_prepared h = go (allowed s passed).mark
    where
      go : (s.t ≡ 0) ⊎ Prepared s → Prepared s
      go (inl e) = absurd (omega arith)
      go (inr p) = p

  pub few_runs : (n : ℕ) → n ≤ most_rows → n * (s.l / s.t) ≤ most_rows * most_length
  few_runs n h = mul-le-mul h (run_small s passed)

  pub few_parts : (n : ℕ) → n ≤ most_rows → n * ((s.t - s.r) * (s.l / s.t)) ≤ most_rows * (most_rows * most_length)
  few_parts n h = mul-le-mul h (part_small s passed)

  pub data_parts : s.k * ((s.t - s.r) * (s.l / s.t)) ≤ 3133440
  data_parts = mul-le-mul (data_small s passed) (part_small s passed)

  -- the same of the parts of any stripe
  pub data_part_bytes : s.k * part_bytes s ≤ 3133440
  data_part_bytes =
      let a = allowed s passed in
      let run : run_length s ≤ most_length = omega (arith, a.run_most, a.length_most) in
      mul-le-mul (data_small s passed) (mul-le-mul {n₂ = most_rows} (rest a.mark) run)
    where
      rest : (s.t ≡ 0) ⊎ Prepared s → s.t - s.r ≤ most_rows
      rest (inl e) = omega arith
      rest (inr h) = let m = h.mark_most in omega arith
