-- A stripe by check equations that nothing is refused of: crate `repair` refuses nothing of it either, and what is repaired is restored.
use Prim.Native.Nat.{ℕ, ◌≤◌, ◌<◌}
use mathlib.Core.Path.{◌≡◌, sym, ◌∙◌}
use mathlib.Core.Bool.{true}
use mathlib.Core.Logic.{◌⊎◌, inl, inr}
use mathlib.Core.List.{List, []}
use native.Mathlib.Omega.{arith}
use lib.ListN.{length}
use lib.Seq.{length-take-le}
use borrow.Author.Tests.{eq-eqb}
use Rattle.stripe.specs.declared.Shape.{Shape}
use Rattle.stripe.specs.Shape.{shape_refusal, most_rows, columns, stripe_length}
use Rattle.stripe.specs.Stripe.{by_points, Ascending}
use Rattle.stripe.proofs.Allowed.{Allowed, allowed, many_by_points, points_fit}
use Rattle.stripe.proofs.Ascending.{ascending_so}
use Rattle.equations.specs.Whole.{Codeword as Zeros, Agree}
use Rattle.equations.proofs.Codes.{codeword_zeros, zeros_codeword}
use Rattle.lost.specs.declared.Lost.{Lost}
use Rattle.lost.specs.Lost.{lost_list}
use Rattle.repair.specs.Repair.{repair_refusal, Repaired}
use Rattle.repair.proofs.Refused.{length_fits, passes}
use Rattle.mending.specs.Restore.{Ready, Restores}

-- the record has room for its positions
pub room_for : (s : Shape) (w : Lost) → Ready s w → w.count ≤ length w.at
room_for s w ready = omega (arith, ready.room, ready.few, (allowed s ready.shape).parity_most)

module _ (s : Shape) (h : shape_refusal s ≡ 0) (many : most_rows < s.r) (es : List ℕ) (ascend : Ascending 0 (columns s) es) (few : length es ≤ s.r) where
  facts : Allowed s
  facts = allowed s h

  points_here : by_points s ≡ true
  points_here = many_by_points s many facts.parity_most

  nothing_refused : (d : ℕ) → d ≡ stripe_length s → repair_refusal s.k s.r s.l es d ≡ 0
  nothing_refused d long =
      passes s.k s.r s.l es d
      (sym (length_fits s.k s.r s.l d facts.data_some facts.parity_some facts.parity_most (points_fit s facts points_here)
      facts.length_some facts.length_most) ∙ eq-eqb _ _ long)
      (ascending_so 0 (columns s) es ascend) few

  pub repaired_restored : (xs : List ℕ) (v : ℕ) (ys : List ℕ) → length xs ≡ stripe_length s
      → Repaired s.k s.r s.l es xs v ys → Restores s es xs v ys
  repaired_restored xs v ys long m = go (m.judged (nothing_refused (length xs) long))
    where
      go : ((v ≡ 0) × (Zeros s.k s.r s.l ys × Agree (columns s) s.l es xs ys))
          ⊎ ((v ≡ 8) × ((ys ≡ xs) × ((zs : List ℕ) → Zeros s.k s.r s.l zs → Agree (columns s) s.l es xs zs → ⊥)))
          → Restores s es xs v ys
      go (inl a) = inl (a.0, record { codeword = zeros_codeword s ys points_here a.1.0; agrees = a.1.1 })
      go (inr a) = inr (a.0, (a.1.0, λ zs r. a.1.1 zs (codeword_zeros s zs points_here r.codeword) r.agrees))

-- ---- the positions of a record, and none

pub few_lost : (s : Shape) (w : Lost) → Ready s w → length (lost_list w) ≤ s.r
few_lost s w ready = omega (arith, length-take-le w.count w.at (room_for s w ready), ready.few)

pub nothing_lost : (n : ℕ) → Ascending 0 n []
unfolding Ascending
nothing_lost n = tt
