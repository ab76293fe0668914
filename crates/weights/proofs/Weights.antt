-- Weights that are made without a product, and in two steps.
use mathlib.Core.Path.{◌≡◌, refl, sym, ap, ap₂, ◌∙◌}
use mathlib.Core.List.{List, [], ◌∷◌, map}
use Prim.Native.Nat.{ℕ, suc, ◌+◌, ◌-◌, ◌<◌, ◌≤◌}
use native.Mathlib.Nat.{not-suc-le-zero, le_of_suc-le-suc}
use native.Mathlib.Omega.{arith}
use lib.ListN.{length}
use Rattle.field.specs.Field.{◌⊕◌, doubled, shifted, ◌⊗◌, power, gpow}
use Rattle.field.specs.Bytes.{Bytes}
use Rattle.field.proofs.Mul.{one-mul, mul_assoc, gpow-zero, gpow-add}
use Rattle.lanes.specs.Lanes.{onto}

-- two functions that agree on bytes
onto_same : (f g : ℕ → ℕ → ℕ) (xs ys : List ℕ) → Bytes xs → ((x y : ℕ) → x < 256 → f x y ≡ g x y) → onto f xs ys ≡ onto g xs ys
unfolding onto
onto_same f g [] ys b h = refl
onto_same f g (x ∷ xs) [] b h = refl
onto_same f g (x ∷ xs) (y ∷ ys) b h = ap₂ ◌∷◌ (h x y (b 0)) (onto_same f g xs ys (λ i. b (suc i)) h)

-- the weights that are made without a product
pub weight_none : (e : ℕ) (xs ys : List ℕ) → e ≡ 0 → Bytes xs → onto (λ (x y : ℕ). x ⊕ y) xs ys ≡ onto (λ (x y : ℕ). gpow e ⊗ x ⊕ y) xs ys
weight_none e xs ys h b =
    onto_same _ _ xs ys b (λ x y l. ap (λ (u : ℕ). u ⊕ y) (sym (ap (λ (u : ℕ). u ⊗ x) (ap gpow h ∙ gpow-zero) ∙ one-mul x l)))

pub weight_by : (c e : ℕ) (xs ys : List ℕ) → c ≡ gpow e → onto (λ (x y : ℕ). c ⊗ x ⊕ y) xs ys ≡ onto (λ (x y : ℕ). gpow e ⊗ x ⊕ y) xs ys
weight_by c e xs ys h = ap (λ (u : ℕ). onto (λ (x y : ℕ). u ⊗ x ⊕ y) xs ys) h

pub gpow-one : 2 ≡ gpow 1
unfolding gpow power ◌⊗◌ shifted doubled ◌⊕◌
gpow-one = refl

pub gpow_two : 4 ≡ gpow 2
unfolding gpow power ◌⊗◌ shifted doubled ◌⊕◌
gpow_two = refl

pub gpow_three : 8 ≡ gpow 3
unfolding gpow power ◌⊗◌ shifted doubled ◌⊕◌
gpow_three = refl

pub gpow_four : 16 ≡ gpow 4
unfolding gpow power ◌⊗◌ shifted doubled ◌⊕◌
gpow_four = refl

-- a weight in two steps, the first along the whole run
onto_after : (a b c : ℕ) (xs ys : List ℕ) → a ⊗ b ≡ c → length xs ≤ length ys
    → onto (λ (x y : ℕ). a ⊗ x ⊕ y) (map (λ (x : ℕ). b ⊗ x) xs) ys ≡ onto (λ (x y : ℕ). c ⊗ x ⊕ y) xs ys
unfolding onto
onto_after a b c [] ys h l = refl
onto_after a b c (x ∷ xs) [] h l = absurd (not-suc-le-zero l)
onto_after a b c (x ∷ xs) (y ∷ ys) h l =
    ap₂ ◌∷◌ (ap (λ (u : ℕ). u ⊕ y) (sym (mul_assoc a b x) ∙ ap (λ (u : ℕ). u ⊗ x) h)) (onto_after a b c xs ys h (le_of_suc-le-suc l))

pub weight_four : (e : ℕ) (xs ys : List ℕ) → 4 ≤ e → length xs ≤ length ys
    → onto (λ (x y : ℕ). gpow (e - 4) ⊗ x ⊕ y) (map (λ (x : ℕ). 16 ⊗ x) xs) ys ≡ onto (λ (x y : ℕ). gpow e ⊗ x ⊕ y) xs ys
weight_four e xs ys h l =
    let sum : e - 4 + 4 ≡ e = omega arith in
    onto_after (gpow (e - 4)) 16 (gpow e) xs ys (ap (λ (u : ℕ). gpow (e - 4) ⊗ u) gpow_four ∙ sym (gpow-add (e - 4) 4) ∙ ap gpow sum) l
