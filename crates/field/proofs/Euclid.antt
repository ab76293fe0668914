-- Euclid's algorithm as the source runs it: each division ends and leaves less than it divided by, and the whole gives the inverse of each
-- byte but 0, which is one test over all of them.
use mathlib.Core.Path.{◌≡◌, refl, sym, ap, ap₂, ◌∙◌, subst}
use mathlib.Core.Bool.{Bool, false, cond}
use Prim.Native.Nat.{ℕ, zero, suc, ◌+◌, ◌-◌, ◌*◌, ◌/◌, ◌%◌, ◌^◌, ◌<◌, ◌≤◌}
use native.Mathlib.Nat.{mod-eq_of_lt, pow-suc, mul-le-mul_right, div-lt_iff_lt-mul, le-div_iff_mul-le, one-mul, lt_of_lt_of_le, lt_trans, le_trans}
use native.Mathlib.Omega.{arith}
use lib.Count.{count_leading_zeros, leading_of_zero, leading_top, leading_length}
use lib.Dec.{T, ltb, eqb, eqb→eq, ltb→lt}
use lib.Pow.{pow_pos, pow_mono, pow-add, shl_lt}
use borrow.Author.Tests.{lt-ltb, le-ltb}
use Rattle.field.specs.Field.{◌⊕◌, ◌⊗◌, doubled, shifted, inverse_of, polynomial}
use Rattle.field.specs.Euclid.{taken, Rest, shorter, longer}
use Rattle.field.proofs.Xor.{add_shr}
use Rattle.field.proofs.Below.{both, both_left, both_right, all, below}
use Rattle.field.proofs.Mul.{inverse_unique}

abbrev zeros : ℕ → ℕ
zeros a = count_leading_zeros 32 a

-- ---- two numbers with one highest bit: their sum is without it

module _ (j a : ℕ) (low : 2 ^ j ≤ a) (high : a < 2 ^ suc j) where
  one_below : a / 2 ^ j < 2
  one_below = (div-lt_iff_lt-mul (pow_pos j)).1 (subst (λ (x : ℕ). a < x) (pow-suc 2 j ∙ omega arith) high)

  one_above : 1 ≤ a / 2 ^ j
  one_above = (le-div_iff_mul-le (pow_pos j)).1 (subst (λ (x : ℕ). x ≤ a) (sym (one-mul (2 ^ j))) low)

  top_bit : a / 2 ^ j ≡ 1
  top_bit = omega (arith, one_below, one_above)

one-one : 1 ⊕ 1 ≡ 0
unfolding ◌⊕◌
one-one = refl

sum_below : (j a b : ℕ) → 2 ^ j ≤ a → a < 2 ^ suc j → 2 ^ j ≤ b → b < 2 ^ suc j → a ⊕ b < 2 ^ j
sum_below j a b la ha lb hb =
    let e : (a ⊕ b) / 2 ^ j ≡ 0 = add_shr a b j ∙ ap₂ ◌⊕◌ (top_bit j a la ha) (top_bit j b lb hb) ∙ one-one in
    subst (λ (x : ℕ). a ⊕ b < x) (one-mul (2 ^ j)) ((div-lt_iff_lt-mul (pow_pos j)).0 (omega arith))

-- ---- one division

pub zeros_lt : (v : ℕ) → 0 < v → v < 2 ^ 32 → zeros v < 32
zeros_lt v p h = let t = leading_top 32 v p h in omega (arith, t.1)

not_zero : (u n : ℕ) → zeros u ≤ n → n < 32 → 0 < u
not_zero zero n l h = omega (arith, leading_of_zero 32)
not_zero (suc u) n l h = omega arith

module _ (v u : ℕ) (p : 0 < v) (hv : v < 2 ^ 32) (hu : u < 2 ^ 32) (l : zeros u ≤ zeros v) where
  -- each step takes something away
  pub taken_less : taken v u < u
  unfolding taken
  taken_less =
      let s = leading_top 32 v p hv in
      let t = leading_top 32 u (not_zero u (zeros v) l (zeros_lt v p hv)) hu in
      let d = zeros v - zeros u in
      let e : s.0 + d ≡ t.0 = omega (arith, s.1, t.1) in
      let low : 2 ^ t.0 ≤ v * 2 ^ d =
      subst (λ (x : ℕ). x ≤ v * 2 ^ d) (sym (pow-add 2 s.0 d) ∙ ap (λ (x : ℕ). 2 ^ x) e) (mul-le-mul_right (2 ^ d) s.2) in
      let f : suc s.0 + d ≡ suc t.0 = omega arith in
      let high : v * 2 ^ d < 2 ^ suc t.0 = subst (λ (x : ℕ). v * 2 ^ d < 2 ^ x) f (shl_lt (suc s.0) d s.3) in
      let fits : suc t.0 ≤ 32 = omega (arith, t.1) in
      let m : v * 2 ^ d % 2 ^ 32 ≡ v * 2 ^ d = mod-eq_of_lt (lt_of_lt_of_le high (pow_mono fits)) in
      lt_of_lt_of_le (subst (λ (x : ℕ). u ⊕ x < 2 ^ t.0) (sym m) (sum_below t.0 u (v * 2 ^ d) t.2 t.3 low high)) t.2

rest_shorter : {v u w : ℕ} → Rest v u w → zeros v < zeros w
rest_shorter (shorter h) = h
rest_shorter (longer h r) = rest_shorter r

rest_small : {v u w : ℕ} → 0 < v → v < 2 ^ 32 → u < 2 ^ 32 → Rest v u w → w < 2 ^ 32
rest_small p hv hu (shorter h) = hu
rest_small {v} {u} p hv hu (longer h r) = rest_small p hv (lt_trans (taken_less v u p hv hu h) hu) r

-- what is left is less than what was divided by
pub rest_less : (v u w : ℕ) → 0 < v → v < 2 ^ 32 → u < 2 ^ 32 → Rest v u w → w < v
rest_less v u w p hv hu r =
    let s = leading_top 32 v p hv in
    let t = leading_length 32 w (rest_small p hv hu r) in
    let m : t.0 ≤ s.0 = omega (arith, s.1, t.1, rest_shorter r) in
    lt_of_lt_of_le t.2 (le_trans (pow_mono m) s.2)

-- ---- the whole, by at most 5 steps to a division and 7 divisions

left : ℕ → ℕ → ℕ → ℕ
left zero v u = u
left (suc n) v u = cond (ltb (zeros v) (zeros u)) u (left n v (taken v u))

rest_left : (n : ℕ) {v u w : ℕ} → Rest v u w → zeros v < zeros (left n v u) → w ≡ left n v u
unfolding left
rest_left zero (shorter h) l = refl
rest_left zero (longer h r) l = omega arith
rest_left (suc n) {v} {u} (shorter h) l = sym (ap (λ (b : Bool). cond b u (left n v (taken v u))) (lt-ltb (zeros v) (zeros u) h))
rest_left (suc n) {v} {u} (longer h r) l =
    let e : left (suc n) v u ≡ left n v (taken v u) =
    ap (λ (b : Bool). cond b u (left n v (taken v u))) (le-ltb (zeros v) (zeros u) h) in
    rest_left n r (subst (λ (x : ℕ). zeros v < zeros x) e l) ∙ sym e

-- from u and v on, n divisions at most lead to what a is to be multiplied by to give 1
pub runs : ℕ → ℕ → ℕ → ℕ → Bool
runs zero a u v = false
runs (suc n) a u v =
    let x = left 5 v u in cond (ltb v 131072) (eqb (a ⊗ (v % 256)) 1) (both (ltb (zeros v) (zeros x)) (runs n a v x))

abbrev pub Runs : ℕ → ℕ → ℕ → Type 0
Runs a u v = (n : ℕ) × T (runs n a u v)

starts_ok : ℕ → Bool
starts_ok a = runs 8 (suc a) (polynomial * 65536) (suc a * 65536 + 1)

-- the test is computed here alone: in a lemma with cases it would be computed once more for them
starts : T (all starts_ok 255)
unfolding starts_ok runs left taken count_leading_zeros ◌⊗◌ shifted doubled ◌⊕◌
starts = tt

pub runs_start : (a : ℕ) → 0 < a → a < 256 → Runs a (polynomial * 65536) (a * 65536 + 1)
unfolding starts_ok
runs_start zero p h = absurd (omega arith)
runs_start (suc a) p h = (8, below starts_ok 255 starts a (omega arith))

pub runs_turn : (a u v w : ℕ) → 131072 ≤ v → Runs a u v → Rest v u w → Runs a v w
unfolding runs
runs_turn a u v w h (zero, t) r = absurd t
runs_turn a u v w h (suc n, t) r =
    let x = left 5 v u in
    let more : T (both (ltb (zeros v) (zeros x)) (runs n a v x)) =
    subst (λ (b : Bool). T (cond b (eqb (a ⊗ (v % 256)) 1) (both (ltb (zeros v) (zeros x)) (runs n a v x)))) (le-ltb v 131072 h) t in
    let e : w ≡ x = rest_left 5 r (ltb→lt (zeros v) (zeros x) (both_left (ltb (zeros v) (zeros x)) (runs n a v x) more)) in
    (n, subst (λ (y : ℕ). T (runs n a v y)) (sym e) (both_right (ltb (zeros v) (zeros x)) (runs n a v x) more))

pub runs_done : (a u v : ℕ) → 0 < a → a < 256 → v < 131072 → Runs a u v → v % 256 ≡ inverse_of a
unfolding runs
runs_done a u v p k h (zero, t) = absurd t
runs_done a u v p k h (suc n, t) =
    let x = left 5 v u in
    let one : T (eqb (a ⊗ (v % 256)) 1) =
    subst (λ (b : Bool). T (cond b (eqb (a ⊗ (v % 256)) 1) (both (ltb (zeros v) (zeros x)) (runs n a v x)))) (lt-ltb v 131072 h) t in
    inverse_unique a (v % 256) p k (omega arith) (eqb→eq (a ⊗ (v % 256)) 1 one)
