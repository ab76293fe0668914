-- The solving lemma: e sums whose weights are not 0 and whose e points differ belong to exactly one list of e values, and
-- `solve` gives it. One induction over the points: taking the first point b out of the sums leaves, for the others, sums of
-- the same kind with each weight times (its point + b), which is not 0 since the points differ.
use mathlib.Core.Path.{◌≡◌, refl, sym, ap, ap₂, ◌∙◌}
use mathlib.Core.List.{List, [], ◌∷◌}
use Prim.Native.Nat.{ℕ, zero, suc, ◌<◌, zero-le, suc-le-suc}
use native.Mathlib.Nat.{suc_inj, suc-ne-zero, le_of_suc-le-suc, not-suc-le-zero}
use native.Mathlib.Omega.{arith}
use lib.Dec.{lit<}
use lib.ListN.{length, get_or}
use Rattle.field.specs.Field.{◌⊕◌, ◌⊗◌, power, inverse_of}
use Rattle.field.specs.Bytes.{Bytes}
use Rattle.field.specs.Solve.{moment, apart, cleared, solve}
use Rattle.field.proofs.Xor.{zero-add, add-zero, add_self, add_cancel, add_comm, add_assoc, add-lt, sums}
use Rattle.field.proofs.Mul.{mul-zero, mul-lt, mul_pos, mul_comm, mul_inverse, mul_assoc, one-mul, mul-one, products, power-suc, power_zero}

-- a is none of the points
abbrev pub Away : ℕ → List ℕ → Type 0
Away a bs = (v : ℕ) → v < length bs → a ≡ get_or bs v 0 → ⊥

-- no two points are equal
unfoldable pub Apart : List ℕ → Type 0
Apart [] = Unit {0}
Apart (b ∷ bs) = Away b bs × Apart bs

-- no weight is 0
abbrev pub Weights : List ℕ → Type 0
Weights ws = (v : ℕ) → v < length ws → 0 < get_or ws v 0

-- ---- the sums once a point is taken out

moment_step : (w p b a c m n : ℕ) → w ⊗ (b ⊗ p) ⊗ c ⊕ m ⊕ a ⊗ (w ⊗ p ⊗ c ⊕ n) ≡ w ⊗ (b ⊕ a) ⊗ p ⊗ c ⊕ (m ⊕ a ⊗ n)
moment_step w p b a c m n = simp products

-- the sums of the other points, cleared of a, are sums with the weights set apart from a
pub cleared_moment : (a : ℕ) (bs ws cs : List ℕ) (u : ℕ) → cleared a (moment bs ws cs) u ≡ moment bs (apart a bs ws) cs u
unfolding cleared moment apart
cleared_moment a [] ws cs u = zero-add _ ∙ mul-zero a
cleared_moment a (b ∷ bs) [] cs u = zero-add _ ∙ mul-zero a
cleared_moment a (b ∷ bs) (w ∷ ws) [] u = zero-add _ ∙ mul-zero a
cleared_moment a (b ∷ bs) (w ∷ ws) (c ∷ cs) u =
    ap (λ (p : ℕ). w ⊗ p ⊗ c ⊕ moment bs ws cs (suc u) ⊕ a ⊗ (w ⊗ power b u ⊗ c ⊕ moment bs ws cs u)) (power-suc b u)
    ∙ moment_step w (power b u) b a c (moment bs ws cs (suc u)) (moment bs ws cs u)
    ∙ ap (λ (m : ℕ). w ⊗ (b ⊕ a) ⊗ power b u ⊗ c ⊕ m) (cleared_moment a bs ws cs u)

-- ---- lengths, bytes, and what stays not 0

pub apart-length : (a : ℕ) (bs ws : List ℕ) → length bs ≡ length ws → length bs ≡ length (apart a bs ws)
unfolding apart
apart-length a [] ws e = refl
apart-length a (b ∷ bs) [] e = absurd (suc-ne-zero (length bs) e)
apart-length a (b ∷ bs) (w ∷ ws) e = ap suc (apart-length a bs ws (suc_inj e))

apart_bytes : (a : ℕ) (bs ws : List ℕ) → Bytes (apart a bs ws)
unfolding apart
apart_bytes a [] ws v = lit< tt
apart_bytes a (b ∷ bs) [] v = lit< tt
apart_bytes a (b ∷ bs) (w ∷ ws) zero = mul-lt w (b ⊕ a)
apart_bytes a (b ∷ bs) (w ∷ ws) (suc v) = apart_bytes a bs ws v

pub add-ne : (x y : ℕ) → (x ≡ y → ⊥) → 0 < x ⊕ y
add-ne x y h = go (x ⊕ y) refl
  where
    go : (d : ℕ) → x ⊕ y ≡ d → 0 < d
    go zero e = absurd (h (sym (add_cancel y x) ∙ ap (λ (z : ℕ). y ⊕ z) (add_comm y x ∙ e) ∙ add-zero y))
    go (suc d) e = suc-le-suc zero-le

apart_pos : (a : ℕ) (bs ws : List ℕ) → a < 256 → Bytes bs → Bytes ws → Away a bs → Weights ws → Weights (apart a bs ws)
unfolding apart
apart_pos a [] ws ha hb hw d p v l = absurd (not-suc-le-zero l)
apart_pos a (b ∷ bs) [] ha hb hw d p v l = absurd (not-suc-le-zero l)
apart_pos a (b ∷ bs) (w ∷ ws) ha hb hw d p zero l =
    mul_pos w (hw 0) (b ⊕ a) (add-lt 8 b a (hb 0) ha) (p 0 (suc-le-suc zero-le)) (add-ne b a (λ e. d 0 (suc-le-suc zero-le) (sym e)))
apart_pos a (b ∷ bs) (w ∷ ws) ha hb hw d p (suc v) l =
    apart_pos a bs ws ha (λ i. hb (suc i)) (λ i. hw (suc i)) (λ i m. d (suc i) (suc-le-suc m)) (λ i m. p (suc i) (suc-le-suc m)) v (le_of_suc-le-suc l)

pub solve-length : (bs ws : List ℕ) (s : ℕ → ℕ) → length bs ≡ length ws → length (solve bs ws s) ≡ length bs
unfolding solve
solve-length [] ws s e = refl
solve-length (b ∷ bs) [] s e = absurd (suc-ne-zero (length bs) e)
solve-length (b ∷ bs) (w ∷ ws) s e = ap suc (solve-length bs (apart b bs ws) (cleared b s) (apart-length b bs ws (suc_inj e)))

pub solve_bytes : (bs ws : List ℕ) (s : ℕ → ℕ) → Bytes (solve bs ws s)
unfolding solve
solve_bytes [] ws s v = lit< tt
solve_bytes (b ∷ bs) [] s v = lit< tt
solve_bytes (b ∷ bs) (w ∷ ws) s zero = mul-lt (inverse_of w) (s 0 ⊕ moment bs ws (solve bs (apart b bs ws) (cleared b s)) 0)
solve_bytes (b ∷ bs) (w ∷ ws) s (suc v) = solve_bytes bs (apart b bs ws) (cleared b s) v

-- ---- `solve` depends on the sums below the number of points only

cleared_same : (a n : ℕ) (s s' : ℕ → ℕ) → ((u : ℕ) → u < suc n → s u ≡ s' u) → (u : ℕ) → u < n → cleared a s u ≡ cleared a s' u
unfolding cleared
cleared_same a n s s' h u l = ap₂ (λ (x y : ℕ). x ⊕ a ⊗ y) (h (suc u) (suc-le-suc l)) (h u (omega arith))

pub solve_same : (bs ws : List ℕ) (s s' : ℕ → ℕ) → ((u : ℕ) → u < length bs → s u ≡ s' u) → solve bs ws s ≡ solve bs ws s'
unfolding solve
solve_same [] ws s s' h = refl
solve_same (b ∷ bs) [] s s' h = refl
solve_same (b ∷ bs) (w ∷ ws) s s' h =
    ap₂ (λ (x : ℕ) (cs : List ℕ). inverse_of w ⊗ (x ⊕ moment bs ws cs 0) ∷ cs) (h 0 (suc-le-suc zero-le))
    (solve_same bs (apart b bs ws) (cleared b s) (cleared b s') (cleared_same b (length bs) s s' h))

-- ---- the values that `solve` gives have the sums

pub undo : (w x : ℕ) → 0 < w → w < 256 → x < 256 → w ⊗ (inverse_of w ⊗ x) ≡ x
undo w x p h k = sym (mul_assoc w (inverse_of w) x) ∙ ap (λ (y : ℕ). y ⊗ x) (mul_inverse w p h) ∙ one-mul x k

first_sum : (w b x m s : ℕ) → w ⊗ x ≡ s ⊕ m → w < 256 → w ⊗ 1 ⊗ x ⊕ m ≡ s
first_sum w b x m s e h = ap (λ (y : ℕ). y ⊗ x ⊕ m) (mul-one w h) ∙ ap (λ (y : ℕ). y ⊕ m) e ∙ simp sums

next_sum : (w b p x m n s t : ℕ) → w ⊗ p ⊗ x ⊕ m ≡ s → n ⊕ b ⊗ m ≡ t ⊕ b ⊗ s → w ⊗ (b ⊗ p) ⊗ x ⊕ n ≡ t
next_sum w b p x m n s t e f = split ∙ ap₂ (λ (y z : ℕ). b ⊗ y ⊕ z) e f ∙ simp sums
  where
    split : w ⊗ (b ⊗ p) ⊗ x ⊕ n ≡ b ⊗ (w ⊗ p ⊗ x ⊕ m) ⊕ (n ⊕ b ⊗ m)
    split = simp products

-- given that the other points have the cleared sums and the first sum is right, every sum is
sums_follow : (b w x : ℕ) (bs ws cs : List ℕ) (s : ℕ → ℕ) (n : ℕ) → w < 256 → w ⊗ x ≡ s 0 ⊕ moment bs ws cs 0
    → ((u : ℕ) → u < n → cleared b (moment bs ws cs) u ≡ cleared b s u)
    → (u : ℕ) → u < suc n → w ⊗ power b u ⊗ x ⊕ moment bs ws cs u ≡ s u
unfolding cleared
sums_follow b w x bs ws cs s n hw e h zero l =
    ap (λ (p : ℕ). w ⊗ p ⊗ x ⊕ moment bs ws cs 0) (power_zero b) ∙ first_sum w b x (moment bs ws cs 0) (s 0) e hw
sums_follow b w x bs ws cs s n hw e h (suc u) l =
    ap (λ (p : ℕ). w ⊗ p ⊗ x ⊕ moment bs ws cs (suc u)) (power-suc b u)
    ∙ next_sum w b (power b u) x (moment bs ws cs u) (moment bs ws cs (suc u)) (s u) (s (suc u))
    (sums_follow b w x bs ws cs s n hw e h u (omega arith)) (h u (le_of_suc-le-suc l))

pub moment-lt : (bs ws cs : List ℕ) (u : ℕ) → moment bs ws cs u < 256
unfolding moment
moment-lt [] ws cs u = lit< tt
moment-lt (b ∷ bs) [] cs u = lit< tt
moment-lt (b ∷ bs) (w ∷ ws) [] u = lit< tt
moment-lt (b ∷ bs) (w ∷ ws) (c ∷ cs) u = add-lt 8 _ _ (mul-lt (w ⊗ power b u) c) (moment-lt bs ws cs u)

cleared-lt : (a : ℕ) (s : ℕ → ℕ) → ((u : ℕ) → s u < 256) → (u : ℕ) → cleared a s u < 256
unfolding cleared
cleared-lt a s h u = add-lt 8 _ _ (h (suc u)) (mul-lt a (s u))

pub solved : (bs ws : List ℕ) (s : ℕ → ℕ) → length bs ≡ length ws → Bytes bs → Bytes ws → Apart bs → Weights ws → ((u : ℕ) → s u < 256)
    → (u : ℕ) → u < length bs → moment bs ws (solve bs ws s) u ≡ s u
unfolding solve moment Apart
solved [] ws s e hb hw d p h u l = absurd (not-suc-le-zero l)
solved (b ∷ bs) [] s e hb hw d p h u l = absurd (suc-ne-zero (length bs) e)
solved (b ∷ bs) (w ∷ ws) s e hb hw d p h u l =
    sums_follow b w _ bs ws (solve bs (apart b bs ws) (cleared b s)) s (length bs) (hw 0)
    (undo w _ (p 0 (suc-le-suc zero-le)) (hw 0) (add-lt 8 _ _ (h 0) (moment-lt bs ws (solve bs (apart b bs ws) (cleared b s)) 0)))
    (λ v m. cleared_moment b bs ws (solve bs (apart b bs ws) (cleared b s)) v
    ∙ solved bs (apart b bs ws) (cleared b s) (apart-length b bs ws (suc_inj e)) (λ i. hb (suc i)) (apart_bytes b bs ws) d.1
    (apart_pos b bs ws (hb 0) (λ i. hb (suc i)) (λ i. hw (suc i)) d.0 (λ i k. p (suc i) (suc-le-suc k)))
    (cleared-lt b s h) v m)
    u l

-- ---- and no others have

cancel : (w b c q m n : ℕ) → w ⊗ (b ⊗ q) ⊗ c ⊕ m ⊕ b ⊗ (w ⊗ q ⊗ c ⊕ n) ≡ m ⊕ b ⊗ n
cancel w b c q m n = simp products

-- what is left of the sums once the first point is taken out says nothing of its value
taken_out : (b w c : ℕ) (bs ws cs : List ℕ) (u : ℕ)
    → cleared b (λ n. w ⊗ power b n ⊗ c ⊕ moment bs ws cs n) u ≡ moment bs (apart b bs ws) cs u
unfolding cleared
taken_out b w c bs ws cs u =
    ap (λ (y : ℕ). w ⊗ y ⊗ c ⊕ moment bs ws cs (suc u) ⊕ b ⊗ (w ⊗ power b u ⊗ c ⊕ moment bs ws cs u)) (power-suc b u)
    ∙ cancel w b c (power b u) (moment bs ws cs (suc u)) (moment bs ws cs u) ∙ cleared_moment b bs ws cs u

-- solving the sums of any values gives these values back
pub solve_moment : (bs ws cs : List ℕ) → length bs ≡ length ws → length bs ≡ length cs → Bytes bs → Bytes ws → Bytes cs → Apart bs → Weights ws
    → solve bs ws (moment bs ws cs) ≡ cs
unfolding solve moment Apart
solve_moment [] ws [] e f hb hw hc d p = refl
solve_moment [] ws (c ∷ cs) e f hb hw hc d p = absurd (suc-ne-zero (length cs) (sym f))
solve_moment (b ∷ bs) [] cs e f hb hw hc d p = absurd (suc-ne-zero (length bs) e)
solve_moment (b ∷ bs) (w ∷ ws) [] e f hb hw hc d p = absurd (suc-ne-zero (length bs) f)
solve_moment (b ∷ bs) (w ∷ ws) (c ∷ cs) e f hb hw hc d p =
    ap₂ (λ (x : ℕ) (ys : List ℕ). inverse_of w ⊗ (x ⊕ moment bs ws ys 0) ∷ ys) first
    (solve_same bs (apart b bs ws) _ (moment bs (apart b bs ws) cs) (λ u l. taken_out b w c bs ws cs u)
    ∙ solve_moment bs (apart b bs ws) cs (apart-length b bs ws (suc_inj e)) (suc_inj f) (λ i. hb (suc i)) (apart_bytes b bs ws) (λ i. hc (suc i)) d.1
    (apart_pos b bs ws (hb 0) (λ i. hb (suc i)) (λ i. hw (suc i)) d.0 (λ i k. p (suc i) (suc-le-suc k))))
    ∙ ap (λ (x : ℕ). x ∷ cs) (back (moment bs ws cs 0))
  where
    first : w ⊗ power b 0 ⊗ c ⊕ moment bs ws cs 0 ≡ w ⊗ c ⊕ moment bs ws cs 0
    first = ap (λ (y : ℕ). w ⊗ y ⊗ c ⊕ moment bs ws cs 0) (power_zero b) ∙ ap (λ (y : ℕ). y ⊗ c ⊕ moment bs ws cs 0) (mul-one w (hw 0))

    back : (m : ℕ) → inverse_of w ⊗ (w ⊗ c ⊕ m ⊕ m) ≡ c
    back m =
        ap (λ (y : ℕ). inverse_of w ⊗ y) (add_assoc (w ⊗ c) m m ∙ ap (λ (y : ℕ). w ⊗ c ⊕ y) (add_self m) ∙ add-zero (w ⊗ c))
        ∙ sym (mul_assoc (inverse_of w) w c) ∙ ap (λ (y : ℕ). y ⊗ c) (mul_comm (inverse_of w) w ∙ mul_inverse w (p 0 (suc-le-suc zero-le)) (hw 0))
        ∙ one-mul c (hc 0)

-- two lists of values with the same sums are one
pub moments_tell : (bs ws cs cs' : List ℕ) → length bs ≡ length ws → length bs ≡ length cs → length bs ≡ length cs'
    → Bytes bs → Bytes ws → Bytes cs → Bytes cs' → Apart bs → Weights ws
    → ((u : ℕ) → u < length bs → moment bs ws cs u ≡ moment bs ws cs' u) → cs ≡ cs'
moments_tell bs ws cs cs' e f f' hb hw hc hc' d p h =
    sym (solve_moment bs ws cs e f hb hw hc d p)
    ∙ solve_same bs ws (moment bs ws cs) (moment bs ws cs') h
    ∙ solve_moment bs ws cs' e f' hb hw hc' d p
