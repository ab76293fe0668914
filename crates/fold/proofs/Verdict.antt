-- The verdict on a call of the fold: the fold's own refusal, then the lengths of the two lent buffers.
use mathlib.Core.Path.{◌≡◌, refl, sym, ap, ap₂, ◌∙◌}
use mathlib.Core.Bool.{Bool, true, false, cond, ◌&&◌}
use mathlib.Core.List.{List}
use Prim.Native.Nat.{ℕ, zero, suc, ◌*◌}
use native.Mathlib.Nat.{suc-ne-zero}
use lib.Dec.{eqb, eqb-suc-zero}
use lib.ListN.{length}
use borrow.Author.Tests.{eq-eqb, ne_eqb, eqb-true}
use Rattle.field.proofs.Cases.{and_left, and_right}
use Rattle.stripe.specs.declared.Shape.{Shape}
use Rattle.plan.specs.Plan.{fold_refusal, bytes_read}
use Rattle.fold.specs.Fold.{fold_of, fold_verdict, fold_filled}

module _ (s : Shape) (n f a b : ℕ) where
  pub by_refusal : (fold_refusal s n f ≡ 0 → ⊥) → fold_refusal s n f ≡ fold_verdict s n f a b
  unfolding fold_verdict
  by_refusal h =
      sym (ap (λ (t : Bool). cond t (cond (eqb a (bytes_read s n f) && eqb b (f * s.l)) 0 5) (fold_refusal s n f)) (ne_eqb (fold_refusal s n f) 0 h))

  by_lengths : fold_refusal s n f ≡ 0 → (x y : Bool) → eqb a (bytes_read s n f) ≡ x → eqb b (f * s.l) ≡ y → fold_verdict s n f a b ≡ cond (x && y) 0 5
  unfolding fold_verdict
  by_lengths e x y hx hy =
      ap (λ (t : Bool). cond t (cond (eqb a (bytes_read s n f) && eqb b (f * s.l)) 0 5) (fold_refusal s n f)) (eq-eqb (fold_refusal s n f) 0 e)
      ∙ ap₂ (λ (t u : Bool). cond (t && u) 0 5) hx hy

  pub by_read : fold_refusal s n f ≡ 0 → eqb a (bytes_read s n f) ≡ false → 5 ≡ fold_verdict s n f a b
  by_read e h = sym (by_lengths e false (eqb b (f * s.l)) h refl)

  pub by_filled : fold_refusal s n f ≡ 0 → eqb a (bytes_read s n f) ≡ true → (b ≡ f * s.l → ⊥) → 5 ≡ fold_verdict s n f a b
  by_filled e g h = sym (by_lengths e true false g (ne_eqb b (f * s.l) h))

  pub by_nothing : fold_refusal s n f ≡ 0 → eqb a (bytes_read s n f) ≡ true → b ≡ f * s.l → 0 ≡ fold_verdict s n f a b
  by_nothing e g h = sym (by_lengths e true true g (eq-eqb b (f * s.l) h))

  both_passed : (x : ℕ) (t : Bool) → cond (eqb x 0) (cond t 0 5) x ≡ 0 → (x ≡ 0) × (t ≡ true)
  both_passed zero true e = (refl, refl)
  both_passed zero false e = absurd (suc-ne-zero 4 e)
  both_passed (suc x) t e = absurd (suc-ne-zero x (rw (eqb-suc-zero x) at e))

  -- what is not refused has buffers of the lengths stated
  pub verdict_passed : fold_verdict s n f a b ≡ 0 → (fold_refusal s n f ≡ 0) × ((a ≡ bytes_read s n f) × (b ≡ f * s.l))
  unfolding fold_verdict
  verdict_passed e =
      let p = both_passed (fold_refusal s n f) (eqb a (bytes_read s n f) && eqb b (f * s.l)) e in
      (p.0, (eqb-true a (bytes_read s n f) (and_left _ _ p.1), eqb-true b (f * s.l) (and_right (eqb a (bytes_read s n f)) _ p.1)))

module _ (s : Shape) (n f : ℕ) (xs ys : List ℕ) where
  pub unfilled : (fold_verdict s n f (length xs) (length ys) ≡ 0 → ⊥) → ys ≡ fold_filled s n f xs ys
  unfolding fold_filled
  unfilled h = sym (ap (λ (t : Bool). cond t (fold_of s n f xs) ys) (ne_eqb (fold_verdict s n f (length xs) (length ys)) 0 h))

  pub filled : fold_verdict s n f (length xs) (length ys) ≡ 0 → fold_of s n f xs ≡ fold_filled s n f xs ys
  unfolding fold_filled
  filled h = sym (ap (λ (t : Bool). cond t (fold_of s n f xs) ys) (eq-eqb (fold_verdict s n f (length xs) (length ys)) 0 h))
