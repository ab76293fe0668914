-- The laws of the product. Assumes nothing.
use mathlib.Core.Path.{◌≡◌, refl, sym, ap, ap₂, ◌∙◌, subst}
use mathlib.Core.Bool.{Bool}
use Prim.Native.Nat.{ℕ, zero, suc, ◌+◌, ◌*◌, ◌/◌, ◌%◌, ◌<◌, ◌^◌}
use native.Mathlib.Nat.{mod-lt, zero-lt-suc, mod-eq_of_lt, div-add-mod', mul-div_cancel, mul-mod_left}
use native.Mathlib.Nat.{add-zero as ℕ-add-zero, zero-add as ℕ-zero-add, add_comm as ℕ-add-comm, add_assoc as ℕ-add-assoc}
use native.Mathlib.Nat.{zero-mul as ℕ-zero-mul, mul_comm as ℕ-mul-comm, suc-mul, add-suc, suc-add, le_of_suc-le-suc, not-suc-le-zero}
use native.Mathlib.Omega.{arith}
use lib.Bits.{bit_xor, differ, xor_step}
use mathlib.Core.List.{List, [], ◌∷◌}
use lib.ListN.{get_or}
use lib.Pow.{mod-mod-pow, field}
use native.Mathlib.Numerals.{add-one}
use lib.Dec.{T, eqb, eqb→eq, ltb, ltb→lt, lit<}
use Rattle.field.specs.Field.{◌⊕◌, times, doubled, shifted, ◌⊗◌, power, gpow, inverse_of, polynomial}
use Rattle.field.proofs.Xor.{add_self, zero-add, add-zero, add-lt, add_shr, add-mod, sums, digit}
use Rattle.field.proofs.Below.{both, both_left, both_right, below}
use Rattle.field.proofs.Tables.{powers, logarithms}

-- ---- a digit times a sum, a sum of digits times an element

times-add : (d a b : ℕ) → times d (a ⊕ b) ≡ times d a ⊕ times d b
times-add zero a b = sym (zero-add 0)
times-add (suc d) a b = refl

add_times : (d e p : ℕ) → d < 2 → e < 2 → times (d ⊕ e) p ≡ times d p ⊕ times e p
unfolding ◌⊕◌
add_times zero e p hd he = refl
add_times (suc zero) zero p hd he = sym (add-zero p)
add_times (suc zero) (suc zero) p hd he = sym (add_self p)
add_times (suc (suc d)) e p hd he = omega arith
add_times (suc zero) (suc (suc e)) p hd he = omega arith

double : (a b : ℕ) → (a ⊕ b) * 2 ≡ a * 2 ⊕ b * 2
unfolding ◌⊕◌
double a b =
    sym (xor_step (a * 2) (b * 2)
    ∙ ap₂ (λ (x y : ℕ). bit_xor x y * 2 + differ (a * 2 % 2) (b * 2 % 2)) (mul-div_cancel a (zero-lt-suc 1)) (mul-div_cancel b (zero-lt-suc 1))
    ∙ ap₂ (λ (x y : ℕ). bit_xor a b * 2 + differ x y) (mul-mod_left a 2) (mul-mod_left b 2)
    ∙ ℕ-add-zero (bit_xor a b * 2))

-- ---- x times a sum

top_add : (a b : ℕ) → (a ⊕ b) / 128 % 2 ≡ a / 128 % 2 ⊕ b / 128 % 2
top_add a b = ap (λ (x : ℕ). x % 2) (add_shr a b 7) ∙ add-mod (a / 128) (b / 128) 1

pub doubled-add : (a b : ℕ) → doubled (a ⊕ b) ≡ doubled a ⊕ doubled b
unfolding doubled
doubled-add a b =
    ap₂ (λ (x y : ℕ). x ⊕ times y polynomial) (double a b) (top_add a b)
    ∙ ap (λ (x : ℕ). a * 2 ⊕ b * 2 ⊕ x) (add_times (a / 128 % 2) (b / 128 % 2) polynomial (digit (a / 128)) (digit (b / 128)))
    ∙ simp sums

doubled-zero : doubled 0 ≡ 0
unfolding doubled ◌⊕◌
doubled-zero = refl

times_doubled : (d b : ℕ) → times d (doubled b) ≡ doubled (times d b)
unfolding doubled ◌⊕◌
times_doubled zero b = refl
times_doubled (suc d) b = refl

-- ---- the sum over digits is linear in each of the two elements

pub bits_add : (k a b c : ℕ) → shifted k a (b ⊕ c) ≡ shifted k a b ⊕ shifted k a c
unfolding shifted
bits_add zero a b c = sym (zero-add 0)
bits_add (suc k) a b c =
    ap₂ ◌⊕◌ (times-add (a % 2) b c) (ap (shifted k (a / 2)) (doubled-add b c) ∙ bits_add k (a / 2) (doubled b) (doubled c))
    ∙ simp sums

pub bits_doubled : (k a b : ℕ) → shifted k a (doubled b) ≡ doubled (shifted k a b)
unfolding shifted
bits_doubled zero a b = sym doubled-zero
bits_doubled (suc k) a b =
    ap₂ ◌⊕◌ (times_doubled (a % 2) b) (bits_doubled k (a / 2) (doubled b)) ∙ sym (doubled-add (times (a % 2) b) (shifted k (a / 2) (doubled b)))

pub add_bits : (k a b c : ℕ) → shifted k (a ⊕ b) c ≡ shifted k a c ⊕ shifted k b c
unfolding shifted
add_bits zero a b c = sym (zero-add 0)
add_bits (suc k) a b c =
    ap₂ (λ (x y : ℕ). times x c ⊕ shifted k y (doubled c)) (add-mod a b 1) (add_shr a b 1)
    ∙ ap₂ ◌⊕◌ (add_times (a % 2) (b % 2) c (digit a) (digit b)) (add_bits k (a / 2) (b / 2) (doubled c))
    ∙ simp sums

pub mul-add : (a b c : ℕ) → a ⊗ (b ⊕ c) ≡ a ⊗ b ⊕ a ⊗ c
unfolding ◌⊗◌
mul-add a b c = ap (shifted 8 a) (add-mod b c 8) ∙ bits_add 8 a (b % 256) (c % 256)

pub add-mul : (a b c : ℕ) → (a ⊕ b) ⊗ c ≡ a ⊗ c ⊕ b ⊗ c
unfolding ◌⊗◌
add-mul a b c = add_bits 8 a b (c % 256)

-- ---- what is left of a number that is no element

bits_mod : (k a b : ℕ) → shifted k (a % 2 ^ k) b ≡ shifted k a b
unfolding shifted
bits_mod zero a b = refl
bits_mod (suc k) a b =
    ap (λ (n : ℕ). times (a % 2 ^ n % 2) b ⊕ shifted k (a % 2 ^ n / 2) (doubled b)) (sym (add-one k))
    ∙ ap₂ (λ (x y : ℕ). times x b ⊕ shifted k y (doubled b)) (mod-mod-pow a k 1) (field a k 1)
    ∙ ap (λ (x : ℕ). times (a % 2) b ⊕ x) (bits_mod k (a / 2) (doubled b))

mod-mul : (a b : ℕ) → a % 256 ⊗ b ≡ a ⊗ b
unfolding ◌⊗◌
mod-mul a b = bits_mod 8 a (b % 256)

mul-mod : (a b : ℕ) → a ⊗ (b % 256) ≡ a ⊗ b
unfolding ◌⊗◌
mul-mod a b = ap (shifted 8 a) (mod-eq_of_lt (mod-lt b (lit< tt)))

-- ---- the tests: each is one computation over the 256 elements

one_ok : ℕ → Bool
one_ok a = eqb (shifted 8 a 1) a

bits_one : (a : ℕ) → a < 256 → shifted 8 a 1 ≡ a
unfolding one_ok shifted doubled ◌⊕◌
bits_one a h = eqb→eq (shifted 8 a 1) a (below one_ok 256 tt a h)

two_ok : ℕ → Bool
two_ok a = eqb (shifted 8 2 a) (doubled a)

bits_two : (a : ℕ) → a < 256 → shifted 8 2 a ≡ doubled a
unfolding two_ok shifted doubled ◌⊕◌
bits_two a h = eqb→eq (shifted 8 2 a) (doubled a) (below two_ok 256 tt a h)

small_ok : ℕ → Bool
small_ok a = ltb (doubled a) 256

pub doubled-lt : (a : ℕ) → a < 256 → doubled a < 256
unfolding small_ok doubled ◌⊕◌
doubled-lt a h = ltb→lt (doubled a) 256 (below small_ok 256 tt a h)

pos_ok : ℕ → Bool
pos_ok a = ltb 0 (doubled (suc a))

doubled_pos : (a : ℕ) → a < 255 → 0 < doubled (suc a)
unfolding pos_ok doubled ◌⊕◌
doubled_pos a h = ltb→lt 0 (doubled (suc a)) (below pos_ok 255 tt a h)

-- ---- a product is an element

times-lt : (d b : ℕ) → b < 256 → times d b < 256
times-lt zero b h = lit< tt
times-lt (suc d) b h = h

bits_lt : (k a b : ℕ) → b < 256 → shifted k a b < 256
unfolding shifted
bits_lt zero a b h = lit< tt
bits_lt (suc k) a b h = add-lt 8 (times (a % 2) b) (shifted k (a / 2) (doubled b)) (times-lt (a % 2) b h) (bits_lt k (a / 2) (doubled b) (doubled-lt b h))

pub mul-lt : (a b : ℕ) → a ⊗ b < 256
unfolding ◌⊗◌
mul-lt a b = bits_lt 8 a (b % 256) (mod-lt b (lit< tt))

-- ---- one, zero

pub mul-one : (a : ℕ) → a < 256 → a ⊗ 1 ≡ a
unfolding ◌⊗◌
mul-one a h = bits_one a h

pub zero-mul : (a : ℕ) → 0 ⊗ a ≡ 0
unfolding ◌⊗◌ shifted ◌⊕◌
zero-mul a = refl

pub mul-zero : (a : ℕ) → a ⊗ 0 ≡ 0
mul-zero a = ap (λ (x : ℕ). a ⊗ x) (sym (zero-add 0)) ∙ mul-add a 0 0 ∙ add_self (a ⊗ 0)

-- ---- the powers of the generator

pub gpow-lt : (n : ℕ) → gpow n < 256
unfolding gpow power
gpow-lt zero = lit< tt
gpow-lt (suc n) = mul-lt 2 (gpow n)

pub two_mul : (a : ℕ) → a < 256 → 2 ⊗ a ≡ doubled a
unfolding ◌⊗◌
two_mul a h = ap (shifted 8 2) (mod-eq_of_lt h) ∙ bits_two a h

pub gpow-suc : (n : ℕ) → gpow (suc n) ≡ doubled (gpow n)
unfolding gpow power
gpow-suc n = two_mul (gpow n) (gpow-lt n)

mul_doubled : (a b : ℕ) → b < 256 → a ⊗ doubled b ≡ doubled (a ⊗ b)
unfolding ◌⊗◌
mul_doubled a b h =
    ap (shifted 8 a) (mod-eq_of_lt (doubled-lt b h)) ∙ bits_doubled 8 a b
    ∙ ap (λ (x : ℕ). doubled (shifted 8 a x)) (sym (mod-eq_of_lt h))

pub gpow-zero : gpow 0 ≡ 1
unfolding gpow power
gpow-zero = refl

pub gpow-add : (m n : ℕ) → gpow (m + n) ≡ gpow m ⊗ gpow n
gpow-add m zero = ap gpow (ℕ-add-zero m) ∙ sym (mul-one (gpow m) (gpow-lt m)) ∙ ap (λ (x : ℕ). gpow m ⊗ x) (sym gpow-zero)
gpow-add m (suc n) =
    ap gpow (add-suc m n) ∙ gpow-suc (m + n) ∙ ap doubled (gpow-add m n)
    ∙ sym (mul_doubled (gpow m) (gpow n) (gpow-lt n)) ∙ ap (λ (x : ℕ). gpow m ⊗ x) (sym (gpow-suc n))

pub gpow_pos : (n : ℕ) → 0 < gpow n
gpow_pos zero = subst (λ (x : ℕ). 0 < x) (sym gpow-zero) (lit< tt)
gpow_pos (suc n) = go (gpow n) refl (gpow_pos n)
  where
    go : (a : ℕ) → gpow n ≡ a → 0 < gpow n → 0 < gpow (suc n)
    go zero e h = omega arith
    go (suc a) e h =
        subst (λ (x : ℕ). 0 < x) (sym (gpow-suc n ∙ ap doubled e)) (doubled_pos a (omega (arith, gpow-lt n)))

-- ---- the witnesses: the powers one after the other, and the exponent of each element

walk : ℕ → ℕ → List ℕ
walk zero a = []
walk (suc n) a = a ∷ walk n (doubled a)

walk_at : (n i k : ℕ) → k < n → get_or (walk n (gpow i)) k 0 ≡ gpow (i + k)
unfolding walk
walk_at zero i k h = absurd (not-suc-le-zero h)
walk_at (suc n) i zero h = ap gpow (sym (ℕ-add-zero i))
walk_at (suc n) i (suc k) h =
    ap (λ (x : ℕ). get_or (walk n x) k 0) (sym (gpow-suc i))
    ∙ walk_at n (suc i) k (le_of_suc-le-suc h)
    ∙ ap gpow (suc-add i k ∙ sym (add-suc i k))

powers_walk : powers ≡ walk 256 1
unfolding powers walk doubled ◌⊕◌
powers_walk = refl

pub power_at : (k : ℕ) → k < 256 → get_or powers k 0 ≡ gpow k
power_at k h =
    ap (λ (l : List ℕ). get_or l k 0) (powers_walk ∙ ap (walk 256) (sym gpow-zero))
    ∙ walk_at 256 0 k h ∙ ap gpow (ℕ-zero-add k)

-- the rule of a byte's logarithm: 0 for zero, and for any other byte the exponent, below 255, to which g is that byte
ruled : ℕ → ℕ → Bool
ruled zero l = eqb l 0
ruled (suc a) l = both (ltb l 255) (eqb (get_or powers l 0) (suc a))

log_ok : ℕ → Bool
log_ok a = ruled a (get_or logarithms a 0)

log_rule : (a : ℕ) → a < 256 → T (ruled a (get_or logarithms a 0))
unfolding log_ok ruled powers logarithms
log_rule a h = below log_ok 256 tt a h

pub log_zero : get_or logarithms 0 0 ≡ 0
unfolding ruled
log_zero = eqb→eq (get_or logarithms 0 0) 0 (log_rule 0 (lit< tt))

pub log_lt : (a : ℕ) → a < 256 → get_or logarithms a 0 < 255
unfolding ruled
log_lt zero h = subst (λ (l : ℕ). l < 255) (sym log_zero) (lit< tt)
log_lt (suc a) h =
    ltb→lt (get_or logarithms (suc a) 0) 255
    (both_left (ltb (get_or logarithms (suc a) 0) 255) (eqb (get_or powers (get_or logarithms (suc a) 0) 0) (suc a)) (log_rule (suc a) h))

-- each byte but 0 is a power of the generator
pub log_at : (a : ℕ) → 0 < a → a < 256 → gpow (get_or logarithms a 0) ≡ a
unfolding ruled
log_at zero p h = omega arith
log_at (suc a) p h =
    sym (power_at (get_or logarithms (suc a) 0) (omega (arith, log_lt (suc a) h)))
    ∙ eqb→eq (get_or powers (get_or logarithms (suc a) 0) 0) (suc a)
    (both_right (ltb (get_or logarithms (suc a) 0) 255) (eqb (get_or powers (get_or logarithms (suc a) 0) 0) (suc a)) (log_rule (suc a) h))

exp_ok : ℕ → Bool
exp_ok n = eqb (get_or logarithms (get_or powers n 0) 0) n

log_exp : (n : ℕ) → n < 255 → get_or logarithms (get_or powers n 0) 0 ≡ n
unfolding exp_ok powers logarithms
log_exp n h = eqb→eq (get_or logarithms (get_or powers n 0) 0) n (below exp_ok 255 tt n h)

pub log_gpow : (n : ℕ) → n < 255 → get_or logarithms (gpow n) 0 ≡ n
log_gpow n h = ap (λ (x : ℕ). get_or logarithms x 0) (sym (power_at n (omega arith))) ∙ log_exp n h

-- the first 255 powers are distinct
pub gpow_inj : (m n : ℕ) → m < 255 → n < 255 → gpow m ≡ gpow n → m ≡ n
gpow_inj m n hm hn e = sym (log_gpow m hm) ∙ ap (λ (x : ℕ). get_or logarithms x 0) e ∙ log_gpow n hn

pub gpow_255 : gpow 255 ≡ 1
unfolding powers
gpow_255 = sym (power_at 255 (lit< tt))

-- ---- what holds of 0 and of each power of the generator holds of each element

pub by_powers : (P : ℕ → Type 0) → P 0 → ((n : ℕ) → P (gpow n)) → (a : ℕ) → a < 256 → P a
by_powers P z p zero h = z
by_powers P z p (suc a) h = subst P (log_at (suc a) (zero-lt-suc a) h) (p (get_or logarithms (suc a) 0))

comm_elements : (a : ℕ) → a < 256 → (b : ℕ) → b < 256 → a ⊗ b ≡ b ⊗ a
comm_elements =
    by_powers (λ (a : ℕ). (b : ℕ) → b < 256 → a ⊗ b ≡ b ⊗ a) (λ b h. zero-mul b ∙ sym (mul-zero b))
    (λ m. by_powers (λ (b : ℕ). gpow m ⊗ b ≡ b ⊗ gpow m) (mul-zero (gpow m) ∙ sym (zero-mul (gpow m)))
    (λ n. sym (gpow-add m n) ∙ ap gpow (ℕ-add-comm m n) ∙ gpow-add n m))

low_lt : (a : ℕ) → a % 256 < 256
low_lt a = mod-lt a (lit< tt)

pub mul_comm : (a b : ℕ) → a ⊗ b ≡ b ⊗ a
mul_comm a b =
    sym (mod-mul a b) ∙ sym (mul-mod (a % 256) b) ∙ comm_elements (a % 256) (low_lt a) (b % 256) (low_lt b)
    ∙ mul-mod (b % 256) a ∙ mod-mul b a

assoc_elements : (a : ℕ) → a < 256 → (b : ℕ) → b < 256 → (c : ℕ) → c < 256 → a ⊗ b ⊗ c ≡ a ⊗ (b ⊗ c)
assoc_elements =
    by_powers (λ (a : ℕ). (b : ℕ) → b < 256 → (c : ℕ) → c < 256 → a ⊗ b ⊗ c ≡ a ⊗ (b ⊗ c)) (λ b h c k. simp zero-mul)
    (λ l. by_powers (λ (b : ℕ). (c : ℕ) → c < 256 → gpow l ⊗ b ⊗ c ≡ gpow l ⊗ (b ⊗ c)) (λ c h. simp (mul-zero, zero-mul))
    (λ m. by_powers (λ (c : ℕ). gpow l ⊗ gpow m ⊗ c ≡ gpow l ⊗ (gpow m ⊗ c)) (simp mul-zero)
    (λ n. simp (← gpow-add, ℕ-add-assoc))))

pub mul_assoc : (a b c : ℕ) → a ⊗ b ⊗ c ≡ a ⊗ (b ⊗ c)
mul_assoc a b c =
    sym (mul-mod (a % 256 ⊗ (b % 256)) c ∙ ap (λ (x : ℕ). x ⊗ c) (mul-mod (a % 256) b ∙ mod-mul a b))
    ∙ assoc_elements (a % 256) (low_lt a) (b % 256) (low_lt b) (c % 256) (low_lt c)
    ∙ mod-mul a (b % 256 ⊗ (c % 256)) ∙ ap (λ (x : ℕ). a ⊗ x) (mul-mod (b % 256) c ∙ mod-mul b c)

pub one-mul : (a : ℕ) → a < 256 → 1 ⊗ a ≡ a
one-mul a h = mul_comm 1 a ∙ mul-one a h

pub mul_left_comm : (a b c : ℕ) → a ⊗ (b ⊗ c) ≡ b ⊗ (a ⊗ c)
mul_left_comm a b c = sym (mul_assoc a b c) ∙ ap (λ (x : ℕ). x ⊗ c) (mul_comm a b) ∙ mul_assoc b a c

-- no product of elements is 0 but where one of them is
pub mul_pos : (a : ℕ) → a < 256 → (b : ℕ) → b < 256 → 0 < a → 0 < b → 0 < a ⊗ b
mul_pos =
    by_powers (λ (a : ℕ). (b : ℕ) → b < 256 → 0 < a → 0 < b → 0 < a ⊗ b) (λ b h p q. omega arith)
    (λ m. by_powers (λ (b : ℕ). 0 < gpow m → 0 < b → 0 < gpow m ⊗ b) (λ p q. omega arith)
    (λ n p q. subst (λ (x : ℕ). 0 < x) (gpow-add m n) (gpow_pos (m + n))))

-- products and sums of products, sorted
pub ruleset products = (mul_assoc, mul_comm, mul_left_comm, mul-zero, zero-mul, mul-add, add-mul, sums)

-- ---- powers, and the inverse

pub power-suc : (a n : ℕ) → power a (suc n) ≡ a ⊗ power a n
unfolding power
power-suc a n = refl

pub power_zero : (a : ℕ) → power a 0 ≡ 1
unfolding power
power_zero a = refl

pub power-lt : (a n : ℕ) → power a n < 256
unfolding power
power-lt a zero = lit< tt
power-lt a (suc n) = mul-lt a (power a n)

pub power-add : (a m n : ℕ) → power a (m + n) ≡ power a m ⊗ power a n
power-add a zero n =
    ap (power a) (ℕ-zero-add n) ∙ sym (ap (λ (x : ℕ). x ⊗ power a n) (power_zero a) ∙ one-mul (power a n) (power-lt a n))
power-add a (suc m) n =
    ap (power a) (suc-add m n) ∙ power-suc a (m + n) ∙ ap (λ (x : ℕ). a ⊗ x) (power-add a m n)
    ∙ sym (ap (λ (x : ℕ). x ⊗ power a n) (power-suc a m) ∙ mul_assoc a (power a m) (power a n))

pub power_gpow : (m n : ℕ) → power (gpow m) n ≡ gpow (n * m)
power_gpow m zero = power_zero (gpow m) ∙ sym (ap gpow (ℕ-zero-mul m) ∙ gpow-zero)
power_gpow m (suc n) =
    power-suc (gpow m) n ∙ ap (λ (x : ℕ). gpow m ⊗ x) (power_gpow m n) ∙ sym (gpow-add m (n * m))
    ∙ ap gpow (ℕ-add-comm m (n * m) ∙ sym (suc-mul n m))

-- the exponents go round
pub gpow_wrap : (n : ℕ) → gpow (n + 255) ≡ gpow n
gpow_wrap n = gpow-add n 255 ∙ ap (λ (x : ℕ). gpow n ⊗ x) gpow_255 ∙ mul-one (gpow n) (gpow-lt n)

gpow_round : (n : ℕ) → gpow (n * 255) ≡ 1
gpow_round zero = gpow-zero
gpow_round (suc n) = ap gpow (suc-mul n 255) ∙ gpow_wrap (n * 255) ∙ gpow_round n

pub gpow-mod : (n : ℕ) → gpow (n % 255) ≡ gpow n
gpow-mod n =
    sym (ap gpow (sym (div-add-mod' n 255)) ∙ gpow-add (n / 255 * 255) (n % 255)
    ∙ ap (λ (x : ℕ). x ⊗ gpow (n % 255)) (gpow_round (n / 255)) ∙ one-mul (gpow (n % 255)) (gpow-lt (n % 255)))

pub power_255 : (a : ℕ) → 0 < a → a < 256 → power a 255 ≡ 1
power_255 a p h =
    ap (λ (x : ℕ). power x 255) (sym (log_at a p h)) ∙ power_gpow (get_or logarithms a 0) 255
    ∙ ap gpow (ℕ-mul-comm 255 (get_or logarithms a 0)) ∙ gpow_round (get_or logarithms a 0)

pub mul_inverse : (a : ℕ) → 0 < a → a < 256 → a ⊗ inverse_of a ≡ 1
unfolding inverse_of
mul_inverse a p h = sym (power-suc a 254) ∙ power_255 a p h

pub inverse_zero : inverse_of 0 ≡ 0
unfolding inverse_of
inverse_zero = power-suc 0 253 ∙ zero-mul (power 0 253)

pub inverse_lt : (a : ℕ) → inverse_of a < 256
unfolding inverse_of
inverse_lt a = power-lt a 254

pub inverse_unique : (a r : ℕ) → 0 < a → a < 256 → r < 256 → a ⊗ r ≡ 1 → r ≡ inverse_of a
inverse_unique a r p h k e =
    sym (mul-one r k) ∙ ap (λ (x : ℕ). r ⊗ x) (sym (mul_inverse a p h)) ∙ sym (mul_assoc r a (inverse_of a))
    ∙ ap (λ (x : ℕ). x ⊗ inverse_of a) (mul_comm r a ∙ e) ∙ one-mul (inverse_of a) (inverse_lt a)
