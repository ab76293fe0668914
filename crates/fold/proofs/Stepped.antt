-- One stripe more: what stays of the run, times a power of g, and what is stored of the stripe's share.
use mathlib.Core.Path.{◌≡◌, refl, sym, ap, ap₂, ◌∙◌, subst}
use mathlib.Core.Bool.{Bool, true, false, cond}
use mathlib.Core.List.{List, [], ◌∷◌}
use Prim.Native.Nat.{ℕ, ◌+◌, ◌-◌, ◌<◌, ◌≤◌}
use native.Mathlib.Omega.{arith}
use lib.ListN.{length, get_or, take, drop}
use Rattle.field.specs.Field.{◌⊕◌, ◌⊗◌, gpow}
use Rattle.field.proofs.Xor.{zero-add, add_assoc}
use Rattle.lanes.specs.Lanes.{onto}
use Rattle.lanes.proofs.Onto.{onto-length, onto_at}
use Rattle.lanes.proofs.Parts.{part_length, part_at}
use Rattle.fold.specs.declared.shares.Share.{Share}
use Rattle.fold.specs.declared.shares.Share.TheVariants.{Read, Row, Both}
use Rattle.fold.specs.Shares.{share_at, Within, stays, stepped, Summed}

onto_is : (f g : ℕ → ℕ → ℕ) (xs ys : List ℕ) → ((x y : ℕ) → f x y ≡ g x y) → onto f xs ys ≡ onto g xs ys
unfolding onto
onto_is f g [] ys h = refl
onto_is f g (x ∷ xs) [] h = refl
onto_is f g (x ∷ xs) (y ∷ ys) h = ap₂ ◌∷◌ (h x y) (onto_is f g xs ys h)

pub stays_none : (first : Bool) (w : ℕ) (xs ys : List ℕ) → first ≡ true → onto (λ (x y : ℕ). y) xs ys ≡ onto (λ (x y : ℕ). stays first w x ⊕ y) xs ys
unfolding stays
stays_none first w xs ys e =
    onto_is _ _ xs ys (λ x y. sym (ap (λ (b : Bool). cond b 0 (gpow w ⊗ x) ⊕ y) e ∙ zero-add y))

pub stays_weighted : (first : Bool) (w : ℕ) (xs ys : List ℕ) → first ≡ false
    → onto (λ (x y : ℕ). gpow w ⊗ x ⊕ y) xs ys ≡ onto (λ (x y : ℕ). stays first w x ⊕ y) xs ys
unfolding stays
stays_weighted first w xs ys e = onto_is _ _ xs ys (λ x y. sym (ap (λ (b : Bool). cond b 0 (gpow w ⊗ x) ⊕ y) e))

-- ---- shares

-- one step: what stays of the run, and the n bytes from a on
module _ (first : Bool) (w : ℕ) (xs d ys : List ℕ) (a n : ℕ) (long : length xs ≡ n) (fits : a + n ≤ length d)
    (is : ys ≡ onto (λ (x y : ℕ). stays first w x ⊕ y) xs (take (a + n - a) (drop a d))) where
  pub step_long : length ys ≡ length xs
  step_long = ap length is ∙ onto-length (λ (x y : ℕ). stays first w x ⊕ y) xs _

  pub step_at : (e : ℕ) → e < length xs → get_or ys e 0 ≡ stays first w (get_or xs e 0) ⊕ get_or d (a + e) 0
  step_at e h =
      ap (λ (l : List ℕ). get_or l e 0) is
      ∙ onto_at (λ (x y : ℕ). stays first w x ⊕ y) xs (take (a + n - a) (drop a d)) e h (omega (arith, part_length d a n fits))
      ∙ ap (λ (v : ℕ). stays first w (get_or xs e 0) ⊕ v) (part_at d a n e (omega arith))

module _ (σ : Share) (d rs xs : List ℕ) (within : Within σ (length xs) (length d) (length rs)) where
  pub read_in : (at : ℕ) → σ ≡ Read at → at + length xs ≤ length d
  unfolding Within
  read_in at e = subst (λ (τ : Share). Within τ (length xs) (length d) (length rs)) e within

  pub row_in : (at : ℕ) → σ ≡ Row at → at + length xs ≤ length rs
  unfolding Within
  row_in at e = subst (λ (τ : Share). Within τ (length xs) (length d) (length rs)) e within

  pub both_in : (at from : ℕ) → σ ≡ Both at from → (at + length xs ≤ length d) × (from + length xs ≤ length rs)
  unfolding Within
  both_in at from e = subst (λ (τ : Share). Within τ (length xs) (length d) (length rs)) e within

  module _ (first : Bool) (w : ℕ) where
    pub read_done : (at : ℕ) (ys : List ℕ) → σ ≡ Read at
        → ys ≡ stepped first w xs d at → Summed first w (share_at σ d rs) xs ys
    unfolding share_at
    read_done at ys e is =
        subst (λ (τ : Share). Summed first w (share_at τ d rs) xs ys) (sym e)
        record { long = step_long first w xs d ys at (length xs) refl (read_in at e) is; at = step_at first w xs d ys at (length xs) refl (read_in at e) is }

    pub row_done : (at : ℕ) (ys : List ℕ) → σ ≡ Row at
        → ys ≡ stepped first w xs rs at → Summed first w (share_at σ d rs) xs ys
    unfolding share_at
    row_done at ys e is =
        subst (λ (τ : Share). Summed first w (share_at τ d rs) xs ys) (sym e)
        record { long = step_long first w xs rs ys at (length xs) refl (row_in at e) is; at = step_at first w xs rs ys at (length xs) refl (row_in at e) is }

    pub both_done : (at from : ℕ) (ys zs : List ℕ) → σ ≡ Both at from
        → ys ≡ stepped first w xs d at
        → zs ≡ onto (λ (x y : ℕ). x ⊕ y) ys (take (from + length xs - from) (drop from rs)) → Summed first w (share_at σ d rs) xs zs
    unfolding share_at
    both_done at from ys zs e is js =
        subst (λ (τ : Share). Summed first w (share_at τ d rs) xs zs) (sym e)
        record {
          long = ap length js ∙ onto-length (λ (x y : ℕ). x ⊕ y) ys _ ∙ ys_long;
          at = λ o l. ap (λ (v : List ℕ). get_or v o 0) js
              ∙ onto_at (λ (x y : ℕ). x ⊕ y) ys (take (from + length xs - from) (drop from rs)) o (omega (arith, ys_long))
              (omega (arith, part_length rs from (length xs) (both_in at from e).1))
              ∙ ap₂ (λ (u v : ℕ). u ⊕ v) (step_at first w xs d ys at (length xs) refl (both_in at from e).0 is o l)
              (part_at rs from (length xs) o (omega arith))
              ∙ add_assoc _ _ _;
        }
      where
        ys_long : length ys ≡ length xs
        ys_long = step_long first w xs d ys at (length xs) refl (both_in at from e).0 is
