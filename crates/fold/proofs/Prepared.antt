-- The runs of a prepared stripe: a column has t of them, and in the plan's formulas their length is L/t.
use mathlib.Core.Path.{◌≡◌, sym, ap, ◌∙◌}
use Prim.Native.Nat.{ℕ, ◌+◌, ◌-◌, ◌*◌, ◌/◌, ◌≤◌}
use native.Mathlib.Omega.{arith}
use Rattle.stripe.specs.declared.Shape.{Shape}
use Rattle.stripe.specs.Stripe.{run_length}
use Rattle.stripe.proofs.Allowed.{Allowed, Prepared, prepared_runs, prepared_run_length}
use Rattle.plan.specs.declared.Kind.TheVariants.{B}
use Rattle.plan.specs.Plan.{bytes_each}

module _ (s : Shape) (h : Prepared s) where
  marked : 1 ≤ s.t
  marked = let g = h.gains in omega arith

  pub run_is : run_length s ≡ s.l / s.t
  run_is = prepared_run_length s marked

  pub run_whole : Allowed s → s.t * run_length s ≡ s.l
  run_whole a = ap (λ (n : ℕ). n * run_length s) (sym (prepared_runs s marked)) ∙ a.cut

  pub each_is : (f : ℕ) → bytes_each B s f ≡ (s.r * s.t + s.k * (s.t - s.r)) * run_length s
  unfolding bytes_each
  each_is f = ap (λ (q : ℕ). (s.r * s.t + s.k * (s.t - s.r)) * q) (sym run_is)
