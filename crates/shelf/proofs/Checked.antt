-- The check, for C: a column and a place that it names are small, and what it leaves is told by its answer.
use Prim.Native.Nat.{ℕ, ◌*◌, ◌/◌, ◌%◌, ◌<◌, ◌≤◌}
use mathlib.Core.Path.{◌≡◌, refl, sym, ap, ◌∙◌, subst}
use mathlib.Core.Bool.{Bool, true, false}
use mathlib.Core.List.{List, [], ◌∷◌}
use native.Mathlib.Nat.{suc-ne-zero}
use native.Mathlib.Omega.{arith}
use borrow.Author.Tests.{eqb-true, eqb-false}
use lib.Dec.{eqb}
use lib.ListN.{length, get_or}
use Rattle.stripe.specs.declared.Shape.{Shape}
use Rattle.stripe.specs.Shape.{most_parity, most_length}
use Rattle.stripe.specs.Column.{lent_refusal}
use Rattle.stripe.specs.Stripe.{parity}
use Rattle.stripe.proofs.Allowed.{allowed}
use Rattle.stripe.proofs.Lent.{lent}
use Rattle.stripe.proofs.Places.{place_column_lt, place_byte_lt}
use Rattle.checking.specs.Compare.{agree, first_difference}
use Rattle.checking.specs.Check.{Wrong, At, number_of, values_of, first_wrong}
use Rattle.checking.proofs.Comparing.{first_within}
use Rattle.checking.proofs.Where.{wrong_refused, wrong_nowhere, wrong_at}
use Rattle.shelf.specs.Check.{column_left, place_left}

-- the answer v, and the two lent numbers, x and y before and x' and y' in the end
abbrev pub Leaves : Wrong → ℕ → ℕ → ℕ → ℕ → ℕ → Type 0
Leaves w x y v x' y' = (v ≡ number_of w) × ((x' ≡ column_left w x) × (y' ≡ place_left w y))

pub leaves : (s s' : Shape) (ds ps : List ℕ) (w : Wrong) (x y v x' y' : ℕ) → s ≡ s' → w ≡ first_wrong s ds ps → Leaves w x y v x' y'
    → Leaves (first_wrong s' ds ps) x y v x' y'
leaves s s' ds ps w x y v x' y' e h =
    subst (λ (u : Wrong). Leaves u x y v x' y') (h ∙ ap (λ (z : Shape). first_wrong z ds ps) e)

-- a disagreement is named only within an allowed stripe
module _ (s : Shape) (ds ps : List ℕ) (i p : ℕ) (h : At i p ≡ first_wrong s ds ps) where
  values : i ∷ p ∷ [] ≡ values_of (first_wrong s ds ps)
  values = ap values_of h

  pub named_within : (i ≤ most_parity) × (p ≤ most_length)
  named_within = go (eqb (lent_refusal s (length ds) (length ps)) 0) (agree ps (parity s ds)) refl refl
    where
      first : ℕ
      first = first_difference ps (parity s ds)

      none : [] ≡ values_of (first_wrong s ds ps) → ⊥
      none e = suc-ne-zero 1 (ap length (values ∙ sym e))

      go : (a b : Bool) → eqb (lent_refusal s (length ds) (length ps)) 0 ≡ a → agree ps (parity s ds) ≡ b → (i ≤ most_parity) × (p ≤ most_length)
      go false b d e = absurd (none (ap values_of (sym (wrong_refused s ds ps (eqb-false _ _ d)))))
      go true true d e = absurd (none (ap values_of (sym (wrong_nowhere s ds ps (eqb-true _ _ d) e))))
      go true false d e =
          let k = lent s (length ds) (length ps) (eqb-true _ _ d) in
          let z = allowed s k.shape in
          let n = first_within ps (parity s ds) e in
          let m : first < s.r * s.l = omega (arith, n, k.parity_long) in
          let w = values ∙ ap values_of (wrong_at s ds ps (eqb-true _ _ d) e) in
          let c : i ≡ first / s.l = ap (λ (l : List ℕ). get_or l 0 0) w in
          let q : p ≡ first % s.l = ap (λ (l : List ℕ). get_or l 1 0) w in
          (omega (arith, c, z.parity_most, place_column_lt first s.r s.l m), omega (arith, q, z.length_most, place_byte_lt first s.r s.l m))
