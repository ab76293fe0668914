-- Where byte e of run j of a column of a prepared stripe stands: t runs of L/t bytes are the whole column.
use Prim.Native.Nat.{ℕ, ◌+◌, ◌*◌, ◌/◌, ◌%◌, ◌<◌, ◌≤◌}
use mathlib.Core.Path.{◌≡◌, sym, ap, ap₂, ◌∙◌, subst}
use mathlib.Core.Logic.{◌⊎◌, inl, inr}
use native.Mathlib.Omega.{arith}
use Rattle.stripe.specs.declared.Shape.{Shape}
use Rattle.stripe.specs.Shape.{shape_refusal}
use Rattle.stripe.specs.Stripe.{run_length}
use Rattle.stripe.proofs.Allowed.{Prepared, allowed, prepared_runs, prepared_run_length}
use Rattle.stripe.proofs.Places.{place_lt, place_column, place_byte}

-- place p of a column is byte e of run j
pub record InRun (s : Shape) (j e p : ℕ) : Type 0 where
  pub width : run_length s ≡ s.l / s.t
  pub inside : p < s.l
  pub run : p / run_length s ≡ j
  pub byte : p % run_length s ≡ e

pub in_run : (s : Shape) → shape_refusal s ≡ 0 → (s.t ≡ 0 → ⊥) → (j e : ℕ) → j < s.t → e < s.l / s.t → InRun s j e (j * (s.l / s.t) + e)
in_run s h prepared j e hj he =
    record {
      width = width;
      inside = subst (λ (x : ℕ). place < x) (ap₂ ◌*◌ (sym (prepared_runs s some)) (sym width) ∙ (allowed s h).cut) (place_lt hj he);
      run = ap (λ (w : ℕ). place / w) width ∙ place_column j he;
      byte = ap (λ (w : ℕ). place % w) width ∙ place_byte j he;
    }
  where
    place : ℕ
    place = j * (s.l / s.t) + e

    marked : (s.t ≡ 0) ⊎ Prepared s → 1 ≤ s.t
    marked (inl z) = absurd (prepared z)
    marked (inr w) = omega (arith, w.gains)

    some : 1 ≤ s.t
    some = marked (allowed s h).mark

    width : run_length s ≡ s.l / s.t
    width = prepared_run_length s some
