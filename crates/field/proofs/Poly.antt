-- A polynomial that is zero at as many distinct points as it has coefficients is zero: at a root b it is x + b times a polynomial
-- with one coefficient less, which is zero at the other points.
use mathlib.Core.Path.{◌≡◌, refl, sym, ap, ◌∙◌}
use mathlib.Core.List.{List, [], ◌∷◌}
use Prim.Native.Nat.{ℕ, zero, suc, ◌<◌, zero-le, suc-le-suc}
use native.Mathlib.Nat.{suc_inj, suc-ne-zero}
use lib.Dec.{lit<}
use lib.ListN.{length, get_or}
use Rattle.field.specs.Field.{◌⊕◌, ◌⊗◌}
use Rattle.field.specs.Bytes.{Bytes}
use Rattle.field.specs.Solve.{eval}
use Rattle.field.proofs.Xor.{zero-add, add-zero, add-lt}
use Rattle.field.proofs.Mul.{mul-zero, mul-lt, products}
use Rattle.field.proofs.Powers.{no_divisors}
use Rattle.field.proofs.Solve.{Apart, add-ne}

-- the values at b of the coefficients from each place on
evals : ℕ → List ℕ → List ℕ
evals b [] = []
evals b (c ∷ cs) = eval (c ∷ cs) b ∷ evals b cs

divide_step : (c x b p q : ℕ) → c ⊕ x ⊗ (p ⊕ (x ⊕ b) ⊗ q) ≡ c ⊕ b ⊗ p ⊕ (x ⊕ b) ⊗ (p ⊕ x ⊗ q)
divide_step c x b p q = simp products

-- division by x + b: what is left is the value at b
divide : (b c : ℕ) (cs : List ℕ) (x : ℕ) → eval (c ∷ cs) x ≡ eval (c ∷ cs) b ⊕ (x ⊕ b) ⊗ eval (evals b cs) x
unfolding eval evals
divide b c [] x = simp (mul-zero, add-zero)
divide b c (d ∷ cs) x =
    ap (λ (v : ℕ). c ⊕ x ⊗ v) (divide b d cs x) ∙ divide_step c x b (eval (d ∷ cs) b) (eval (evals b cs) x)

evals_length : (b : ℕ) (cs : List ℕ) → length (evals b cs) ≡ length cs
unfolding evals
evals_length b [] = refl
evals_length b (c ∷ cs) = ap suc (evals_length b cs)

eval-lt : (cs : List ℕ) (x : ℕ) → Bytes cs → eval cs x < 256
unfolding eval
eval-lt [] x h = lit< tt
eval-lt (c ∷ cs) x h = add-lt 8 c (x ⊗ eval cs x) (h 0) (mul-lt x (eval cs x))

evals_bytes : (b : ℕ) (cs : List ℕ) → Bytes cs → Bytes (evals b cs)
unfolding evals
evals_bytes b [] h i = lit< tt
evals_bytes b (c ∷ cs) h zero = eval-lt (c ∷ cs) b h
evals_bytes b (c ∷ cs) h (suc i) = evals_bytes b cs (λ k. h (suc k)) i

first_value : (b : ℕ) (cs : List ℕ) → get_or (evals b cs) 0 0 ≡ eval cs b
unfolding evals eval
first_value b [] = refl
first_value b (c ∷ cs) = refl

front_zero : (b c : ℕ) (cs : List ℕ) → eval (c ∷ cs) b ≡ 0 → eval cs b ≡ 0 → c ≡ 0
unfolding eval
front_zero b c cs e f = sym (ap (λ (v : ℕ). c ⊕ b ⊗ v) f ∙ ap (λ (v : ℕ). c ⊕ v) (mul-zero b) ∙ add-zero c) ∙ e

-- where all these values are 0, so are the coefficients
evals_zero : (b : ℕ) (cs : List ℕ) → ((i : ℕ) → get_or (evals b cs) i 0 ≡ 0) → (i : ℕ) → get_or cs i 0 ≡ 0
unfolding evals
evals_zero b [] e i = refl
evals_zero b (c ∷ cs) e zero = front_zero b c cs (e 0) (sym (first_value b cs) ∙ e 1)
evals_zero b (c ∷ cs) e (suc i) = evals_zero b cs (λ k. e (suc k)) i

root_step : (b c : ℕ) (cs : List ℕ) (x : ℕ) → b < 256 → x < 256 → Bytes cs → (b ≡ x → ⊥) → eval (c ∷ cs) b ≡ 0 → eval (c ∷ cs) x ≡ 0
    → eval (evals b cs) x ≡ 0
root_step b c cs x hb hx h n e f =
    no_divisors (x ⊕ b) (eval (evals b cs) x) (add-lt 8 x b hx hb) (eval-lt (evals b cs) x (evals_bytes b cs h)) (add-ne x b (λ q. n (sym q)))
    (sym (divide b c cs x ∙ ap (λ (v : ℕ). v ⊕ (x ⊕ b) ⊗ eval (evals b cs) x) e ∙ zero-add _) ∙ f)

pub roots_zero : (bs cs : List ℕ) → length bs ≡ length cs → Bytes bs → Bytes cs → Apart bs
    → ((v : ℕ) → v < length bs → eval cs (get_or bs v 0) ≡ 0) → (i : ℕ) → get_or cs i 0 ≡ 0
unfolding Apart
roots_zero [] [] l hb hc d e i = refl
roots_zero [] (c ∷ cs) l hb hc d e i = absurd (suc-ne-zero (length cs) (sym l))
roots_zero (b ∷ bs) [] l hb hc d e i = refl
roots_zero (b ∷ bs) (c ∷ cs) l hb hc d e i =
    all_zero_lem b c cs (e 0 (suc-le-suc zero-le))
    (roots_zero bs (evals b cs) (suc_inj l ∙ sym (evals_length b cs)) (λ k. hb (suc k)) (evals_bytes b cs (λ k. hc (suc k))) d.1
    (λ v m. root_step b c cs (get_or bs v 0) (hb 0) (hb (suc v)) (λ k. hc (suc k)) (d.0 v m) (e 0 (suc-le-suc zero-le)) (e (suc v) (suc-le-suc m)))) i
  where
    all_zero_lem : (b c : ℕ) (cs : List ℕ) → eval (c ∷ cs) b ≡ 0 → ((i : ℕ) → get_or (evals b cs) i 0 ≡ 0) → (i : ℕ) → get_or (c ∷ cs) i 0 ≡ 0
    all_zero_lem b c cs e f zero = front_zero b c cs e (sym (first_value b cs) ∙ f 0)
    all_zero_lem b c cs e f (suc i) = evals_zero b cs f i
