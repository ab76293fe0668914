-- A record's positions: which are among them, and which of them are data columns.
use Prim.Native.Nat.{ℕ, zero, suc, ◌≤◌, ◌<◌}
use mathlib.Core.Path.{◌≡◌, refl, sym, ap, ◌∙◌}
use mathlib.Core.Bool.{Bool, true, false, cond, or-true}
use mathlib.Core.List.{List, [], ◌∷◌}
use native.Mathlib.Omega.{arith}
use native.Mathlib.Nat.{le_of_suc-le-suc}
use lib.Dec.{eqb}
use lib.ListN.{length, get_or, take}
use borrow.Author.Tests.{eq-eqb, ne_eqb}
use Rattle.stripe.specs.Stripe.{among, Ascending}
use Rattle.stripe.proofs.Lost.{lost_data, lost_data_nil, lost_data_below, lost_data_from}
use Rattle.stripe.proofs.Survivors.{first_row, row_step}

pub found : (xs : List ℕ) (n c i : ℕ) → i < n → i < length xs → get_or xs i 0 ≡ c → true ≡ among c (take n xs)
unfolding among
found [] n c i h l e = absurd (omega arith)
found (x ∷ xs) zero c i h l e = absurd (omega arith)
found (x ∷ xs) (suc n) c zero h l e = simp (eq-eqb c x (sym e))
found (x ∷ xs) (suc n) c (suc i) h l e = rw (← found xs n c i (omega arith) (omega arith) e) (sym (or-true (eqb c x)))

pub none : (xs : List ℕ) (n c : ℕ) → ((j : ℕ) → j < n → get_or xs j 0 ≡ c → ⊥) → n ≤ length xs → false ≡ among c (take n xs)
unfolding among
none [] zero c h l = refl
none [] (suc n) c h l = absurd (omega arith)
none (x ∷ xs) zero c h l = refl
none (x ∷ xs) (suc n) c h l = simp (ne_eqb c x (λ e. h 0 (omega arith) (sym e))) (none xs n c (λ j w e. h (suc j) (omega arith) e) (omega arith))

-- past k there are no data columns
none_below : (k a n : ℕ) (es : List ℕ) → k ≤ a → Ascending a n es → lost_data k es ≡ []
unfolding Ascending
none_below k a n [] h w = lost_data_nil k
none_below k a n (e ∷ es) h w =
    lost_data_from k e es (omega (arith, w.0)) ∙ none_below k (suc e) n es (omega (arith, w.0)) w.2

pub data_first : (k a n : ℕ) (xs : List ℕ) (m v : ℕ) → Ascending a n (take m xs) → m ≤ length xs → v ≤ m
    → ((u : ℕ) → u < v → get_or xs u 0 < k) → (v < m → k ≤ get_or xs v 0) → take v xs ≡ lost_data k (take m xs)
unfolding Ascending
data_first k a n [] zero zero w l h below from = sym (lost_data_nil k)
data_first k a n [] zero (suc v) w l h below from = absurd (omega arith)
data_first k a n [] (suc m) v w l h below from = absurd (omega arith)
data_first k a n (e ∷ xs) zero zero w l h below from = sym (lost_data_nil k)
data_first k a n (e ∷ xs) zero (suc v) w l h below from = absurd (omega arith)
data_first k a n (e ∷ xs) (suc m) zero w l h below from =
    sym (lost_data_from k e (take m xs) (from (omega arith)) ∙ none_below k (suc e) n (take m xs) (omega (arith, from (omega arith))) w.2)
data_first k a n (e ∷ xs) (suc m) (suc v) w l h below from =
    ap (λ (ds : List ℕ). e ∷ ds)
    (data_first k (suc e) n xs m v w.2 (le_of_suc-le-suc l) (le_of_suc-le-suc h) (λ u p. below (suc u) (omega arith)) (λ p. from (omega arith)))
    ∙ sym (lost_data_below k e (take m xs) (below 0 (omega arith)))

-- ---- the rows to solve by

pub first_both : (f : ℕ → Bool) → f 0 ≡ true → f 1 ≡ true → 2 ≡ first_row f
unfolding first_row
first_both f p q = sym (ap (λ (b : Bool). cond b (cond (f 1) 2 1) 0) p ∙ ap (λ (b : Bool). cond b 2 1) q)

pub first_one : (f : ℕ → Bool) → f 0 ≡ true → f 1 ≡ false → 1 ≡ first_row f
unfolding first_row
first_one f p q = sym (ap (λ (b : Bool). cond b (cond (f 1) 2 1) 0) p ∙ ap (λ (b : Bool). cond b 2 1) q)

pub first_none : (f : ℕ → Bool) → f 0 ≡ false → 0 ≡ first_row f
unfolding first_row
first_none f p = sym (ap (λ (b : Bool). cond b (cond (f 1) 2 1) 0) p)

pub step_one : (f : ℕ → Bool) → f 0 ≡ true → 1 ≡ row_step f
unfolding row_step
step_one f p = sym (ap (λ (b : Bool). cond b 1 (cond (f 1) 2 1)) p)

pub step_two : (f : ℕ → Bool) → f 0 ≡ false → f 1 ≡ true → 2 ≡ row_step f
unfolding row_step
step_two f p q = sym (ap (λ (b : Bool). cond b 1 (cond (f 1) 2 1)) p ∙ ap (λ (b : Bool). cond b 2 1) q)

pub step_next : (f : ℕ → Bool) → f 0 ≡ false → f 1 ≡ false → 1 ≡ row_step f
unfolding row_step
step_next f p q = sym (ap (λ (b : Bool). cond b 1 (cond (f 1) 2 1)) p ∙ ap (λ (b : Bool). cond b 2 1) q)
