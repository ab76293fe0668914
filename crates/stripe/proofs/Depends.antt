-- Which data bytes a parity byte depends on: those at its own place of every data column and, in a run from r on, those at the
-- same place of the run whose number is the parity column's.
use mathlib.Core.Path.{◌≡◌, sym, ap, ap₂, ◌∙◌}
use mathlib.Core.Logic.{◌⊎◌, inl, inr}
use mathlib.Core.Bool.{cond}
use mathlib.Core.List.{List}
use Prim.Native.Nat.{ℕ, ◌+◌, ◌*◌, ◌/◌, ◌%◌, ◌<◌, ◌≤◌}
use lib.ListN.{get_or}
use Rattle.field.specs.Field.{◌⊕◌}
use Rattle.field.specs.Row.{row}
use Rattle.field.proofs.Cases.{below_or_from}
use Rattle.points.specs.Points.{parity_of as solvedParity}
use Rattle.stripe.specs.declared.Shape.{Shape}
use Rattle.stripe.specs.Stripe.{by_points, row_at, run_length, piggyback, parity_byte, plain_runs}
use Rattle.stripe.proofs.Places.{across_agree, piggyback_none, piggyback_some}

-- two lists of data agree at place p of every data column
abbrev pub AgreeAt : Shape → ℕ → List ℕ → List ℕ → Type 0
AgreeAt s p xs ys = (c : ℕ) → c < s.k → get_or xs (c * s.l + p) 0 ≡ get_or ys (c * s.l + p) 0

pub row_depends : (s : Shape) (xs ys : List ℕ) (j p : ℕ) → AgreeAt s p xs ys → row_at s xs j p ≡ row_at s ys j p
unfolding row_at
row_depends s xs ys j p h = ap (row j) (across_agree xs ys s.l p s.k h)

pub piggyback_depends : (s : Shape) (xs ys : List ℕ) (i p : ℕ)
    → (plain_runs s ≤ p / run_length s → AgreeAt s (i * run_length s + p % run_length s) xs ys) → piggyback s xs i p ≡ piggyback s ys i p
piggyback_depends s xs ys i p h = go (below_or_from (p / run_length s) (plain_runs s))
  where
    go : (p / run_length s < plain_runs s) ⊎ (plain_runs s ≤ p / run_length s) → piggyback s xs i p ≡ piggyback s ys i p
    go (inl l) = piggyback_none s xs i p l ∙ sym (piggyback_none s ys i p l)
    go (inr m) = piggyback_some s xs i p m ∙ row_depends s xs ys _ _ (h m) ∙ sym (piggyback_some s ys i p m)

pub parity_depends : (s : Shape) (xs ys : List ℕ) (i p : ℕ) → AgreeAt s p xs ys
    → (plain_runs s ≤ p / run_length s → AgreeAt s (i * run_length s + p % run_length s) xs ys) → parity_byte s xs i p ≡ parity_byte s ys i p
unfolding parity_byte
parity_depends s xs ys i p h g =
    ap₂ (λ (x y : ℕ). cond (by_points s) x y) (ap (λ (ds : List ℕ). get_or (solvedParity s.r ds) i 0) (across_agree xs ys s.l p s.k h))
    (ap₂ ◌⊕◌ (row_depends s xs ys i p h) (piggyback_depends s xs ys i p g))
