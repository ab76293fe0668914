-- What the source makes by shifting and reducing: twice a byte and the low powers of g, each by one test over all that can be asked for; the
-- product, bit by bit as it is defined; and the other powers, by squaring.
use mathlib.Core.Path.{◌≡◌, refl, sym, ap, ap₂, ◌∙◌}
use mathlib.Core.Bool.{Bool}
use Prim.Native.Nat.{ℕ, zero, suc, ◌+◌, ◌-◌, ◌*◌, ◌/◌, ◌%◌, ◌^◌, ◌<◌, ◌≤◌}
use native.Mathlib.Nat.{mod-eq_of_lt, div-one, div-div-eq-div-mul, pow-suc}
use native.Mathlib.Numerals.{add-one}
use native.Mathlib.Omega.{arith}
use lib.Bits.{bit_xor}
use lib.Dec.{eqb, eqb→eq}
use lib.ListN.{get_or}
use Rattle.field.specs.Field.{◌⊕◌, ◌⊗◌, times, doubled, shifted, gpow}
use Rattle.field.proofs.Below.{below}
use Rattle.field.proofs.Tables.{powers}
use Rattle.field.proofs.Xor.{zero-add, add-zero, add_assoc}
use Rattle.field.proofs.Mul.{two_mul, gpow-lt, gpow-suc, gpow-add, power_at}

-- ---- twice a byte

twice_ok : ℕ → Bool
twice_ok x = eqb (bit_xor (x % 128 * 2) (x / 128 * 29)) (2 ⊗ x)

pub twice : (x : ℕ) → x < 256 → bit_xor (x % 128 * 2) (x / 128 * 29) ≡ 2 ⊗ x
unfolding twice_ok ◌⊗◌ shifted doubled ◌⊕◌
twice x h = eqb→eq (bit_xor (x % 128 * 2) (x / 128 * 29)) (2 ⊗ x) (below twice_ok 256 tt x h)

-- ---- the product: what is summed so far, and the bits that are left

pub product_start : (a b : ℕ) → b < 256 → 0 ⊕ shifted 8 a b ≡ a ⊗ b
unfolding ◌⊗◌
product_start a b h = zero-add (shifted 8 a b) ∙ ap (shifted 8 a) (sym (mod-eq_of_lt h))

pub product_turn : (n v s a b t d : ℕ) → 0 < n → b < 256 → s ⊕ shifted n a b ≡ v → t ≡ times (a % 2) b → d ≡ 2 ⊗ b
    → s ⊕ t ⊕ shifted (n - 1) (a / 2) d ≡ v
unfolding shifted
product_turn zero v s a b t d p h e f g = omega arith
product_turn (suc n) v s a b t d p h e f g =
    let less : suc n - 1 ≡ n = omega arith in
    ap (λ (m : ℕ). s ⊕ t ⊕ shifted m (a / 2) d) less
    ∙ ap₂ (λ (x y : ℕ). s ⊕ x ⊕ shifted n (a / 2) y) f (g ∙ two_mul b h) ∙ add_assoc s (times (a % 2) b) (shifted n (a / 2) (doubled b)) ∙ e

pub product_done : (n v s a b : ℕ) → n ≤ 0 → s ⊕ shifted n a b ≡ v → s ≡ v
unfolding shifted
product_done zero v s a b p e = sym (add-zero s) ∙ e
product_done (suc n) v s a b p e = omega arith

-- ---- the same where a bit's number counts up

pub bits_start : (a b : ℕ) → b < 256 → 0 ⊕ shifted 8 (a / 1) b ≡ a ⊗ b
bits_start a b h = ap (λ (x : ℕ). 0 ⊕ shifted 8 x b) (div-one a) ∙ product_start a b h

-- of no bits nothing is asked
same_rest : (n x y d e : ℕ) → x ≡ y → (0 < n → d ≡ e) → shifted n x d ≡ shifted n y e
unfolding shifted
same_rest zero x y d e p q = refl
same_rest (suc n) x y d e p q = ap₂ (shifted (suc n)) p (q (omega arith))

-- after the last bit nothing is asked of d
pub bits_turn : (i v s a b t d : ℕ) → i < 8 → b < 256 → s ⊕ shifted (8 - i) (a / 2 ^ i) b ≡ v → t ≡ times (a / 2 ^ i % 2) b → (i < 7 → d ≡ 2 ⊗ b)
    → s ⊕ t ⊕ shifted (8 - (i + 1)) (a / 2 ^ (i + 1)) d ≡ v
bits_turn i v s a b t d l h e f g =
    let left : 8 - i - 1 ≡ 8 - (i + 1) = omega arith in
    let half : a / 2 ^ (i + 1) ≡ a / 2 ^ i / 2 =
    ap (λ (p : ℕ). a / p) (ap (λ (k : ℕ). 2 ^ k) (add-one i) ∙ pow-suc 2 i) ∙ sym (div-div-eq-div-mul a (2 ^ i) 2) in
    ap (λ (x : ℕ). s ⊕ t ⊕ x)
    (same_rest (8 - (i + 1)) (a / 2 ^ (i + 1)) (a / 2 ^ i / 2) d (2 ⊗ b) half (λ p. g (omega arith))
    ∙ ap (λ (k : ℕ). shifted k (a / 2 ^ i / 2) (2 ⊗ b)) (sym left))
    ∙ product_turn (8 - i) v s (a / 2 ^ i) b t (2 ⊗ b) (omega arith) h e f refl

pub bits_done : (i v s a b : ℕ) → i ≡ 8 → s ⊕ shifted (8 - i) a b ≡ v → s ≡ v
bits_done i v s a b l e = product_done (8 - i) v s a b (omega arith) e

-- ---- powers

shift_ok : ℕ → Bool
shift_ok n = eqb (1 * 2 ^ n % 256) (get_or powers n 0)

-- where nothing is to be reduced
pub shift_power : (n : ℕ) → n < 8 → 1 * 2 ^ n % 256 ≡ gpow n
unfolding shift_ok powers
shift_power n h = eqb→eq (1 * 2 ^ n % 256) (get_or powers n 0) (below shift_ok 8 tt n h) ∙ power_at n (omega arith)

-- a byte of one of the source's two constants, which have every eighth power
abbrev byte : ℕ → ℕ → ℕ
byte c k = c / 2 ^ k % 256

first_ok : ℕ → Bool
first_ok n = eqb (byte 0x5d466a9d8f4c1d01 (n / 8 * 8)) (get_or powers (n / 8 * 8) 0)

pub first_eighths : (n : ℕ) → n < 64 → 0x5d466a9d8f4c1d01 / 2 ^ (n / 8 * 8) % 256 ≡ gpow (n / 8 * 8)
unfolding first_ok powers
first_eighths n h =
    eqb→eq (byte 0x5d466a9d8f4c1d01 (n / 8 * 8)) (get_or powers (n / 8 * 8) 0) (below first_ok 64 tt n h) ∙ power_at (n / 8 * 8) (omega arith)

other_ok : ℕ → Bool
other_ok n = eqb (byte 0x3b810dd9fefd655f (n / 8 * 8)) (get_or powers (64 + n / 8 * 8) 0)

pub other_eighths : (n : ℕ) → 64 ≤ n → n < 128 → 0x3b810dd9fefd655f / 2 ^ (n / 8 * 8 - 64) % 256 ≡ gpow (n / 8 * 8)
unfolding other_ok powers
other_eighths n l h =
    let e : n / 8 * 8 - 64 ≡ (n - 64) / 8 * 8 = omega arith in
    let f : 64 + (n - 64) / 8 * 8 ≡ n / 8 * 8 = omega arith in
    ap (byte 0x3b810dd9fefd655f) e
    ∙ eqb→eq (byte 0x3b810dd9fefd655f ((n - 64) / 8 * 8)) (get_or powers (64 + (n - 64) / 8 * 8) 0) (below other_ok 64 tt (n - 64) (omega arith))
    ∙ power_at (64 + (n - 64) / 8 * 8) (omega arith)
    ∙ ap gpow f

-- a shift of the source, to the left
abbrev pub moved : ℕ → ℕ → ℕ
moved v k = v * 2 ^ k % 2 ^ 64

-- how often the polynomial goes in, by the bits from x^8 on
abbrev pub quotient : ℕ → ℕ
quotient h = bit_xor (bit_xor (bit_xor h (h / 16)) (h / 32)) (h / 64)

-- that many times the polynomial taken out
abbrev pub cleared : ℕ → ℕ → ℕ
cleared v q = bit_xor (bit_xor (bit_xor (bit_xor v q) (moved q 2)) (moved q 3)) (moved q 4) % 256

abbrev pub reduced : ℕ → ℕ
reduced v = cleared v (quotient (v / 256))

reduced_ok : ℕ → Bool
reduced_ok n = eqb (reduced (moved (get_or powers (n / 8 * 8) 0) (n % 8))) (get_or powers n 0)

pub power_reduced : (n : ℕ) → n < 128 → reduced (moved (gpow (n / 8 * 8)) (n % 8)) ≡ gpow n
unfolding reduced_ok powers
power_reduced n h =
    ap (λ (x : ℕ). reduced (moved x (n % 8))) (sym (power_at (n / 8 * 8) (omega arith)))
    ∙ eqb→eq (reduced (moved (get_or powers (n / 8 * 8) 0) (n % 8))) (get_or powers n 0) (below reduced_ok 128 tt n h)
    ∙ power_at n (omega arith)

-- from the power of half as much
pub even_power : (n s : ℕ) → n % 2 ≡ 0 → s ≡ gpow (n / 2) ⊗ gpow (n / 2) → s ≡ gpow n
even_power n s e f = let d : n / 2 + n / 2 ≡ n = omega arith in f ∙ sym (gpow-add (n / 2) (n / 2)) ∙ ap gpow d

pub odd_power : (n s t : ℕ) → (n % 2 ≡ 0 → ⊥) → s ≡ gpow (n / 2) ⊗ gpow (n / 2) → t ≡ 2 ⊗ s → t ≡ gpow n
odd_power n s t e f g =
    let d : suc (n / 2 + n / 2) ≡ n = omega arith in
    g ∙ ap (λ (x : ℕ). 2 ⊗ x) (f ∙ sym (gpow-add (n / 2) (n / 2)))
    ∙ two_mul (gpow (n / 2 + n / 2)) (gpow-lt (n / 2 + n / 2)) ∙ sym (gpow-suc (n / 2 + n / 2)) ∙ ap gpow d
