-- Sixteen times a byte with four times another, by shifts.
use mathlib.Core.Path.{◌≡◌, refl, sym, ap, ap₂, ◌∙◌}
use mathlib.Core.Bool.{Bool}
use Prim.Native.Nat.{ℕ, ◌*◌, ◌/◌, ◌%◌, ◌<◌}
use native.Mathlib.Omega.{arith}
use lib.Bits.{bit_xor}
use lib.Dec.{eqb, ltb, eqb→eq, ltb→lt}
use Rattle.field.specs.Field.{◌⊕◌, ◌⊗◌, doubled, shifted}
use Rattle.field.proofs.Xor.{add_assoc, add-lt, sums}
use Rattle.field.proofs.Mul.{mul_assoc, mul-add}
use Rattle.field.proofs.Below.{below}

-- four bits, and what they come back as
carry : ℕ → ℕ
carry t = bit_xor (bit_xor t (t * 2)) (t * 4)

carry_ok : ℕ → Bool
carry_ok t = eqb (bit_xor (carry t * 4) t) (29 ⊗ t)

carry_low : ℕ → Bool
carry_low t = ltb (carry t) 64

pub carry_lt : (t : ℕ) → t < 16 → bit_xor (bit_xor t (t * 2)) (t * 4) < 64
unfolding carry carry_low
carry_lt t h = ltb→lt (carry t) 64 (below carry_low 16 tt t h)

pub carry_times : (t : ℕ) → t < 16 → bit_xor (bit_xor t (t * 2)) (t * 4) * 4 ⊕ t ≡ 29 ⊗ t
unfolding carry carry_ok ◌⊗◌ shifted doubled ◌⊕◌
carry_times t h = eqb→eq (bit_xor (carry t * 4) t) (29 ⊗ t) (below carry_ok 16 tt t h)

-- the highest bits of two bytes together
pub high_lt : (x y : ℕ) → x < 256 → y < 256 → x / 16 ⊕ y / 64 < 16
high_lt x y hx hy = add-lt 4 (x / 16) (y / 64) (omega arith) (omega arith)

high_16 : ℕ → Bool
high_16 x = eqb (bit_xor (x % 16 * 16) (29 ⊗ (x / 16))) (16 ⊗ x)

high_4 : ℕ → Bool
high_4 y = eqb (bit_xor (y % 64 * 4) (29 ⊗ (y / 64))) (4 ⊗ y)

split_16 : (x : ℕ) → x < 256 → x % 16 * 16 ⊕ 29 ⊗ (x / 16) ≡ 16 ⊗ x
unfolding high_16 ◌⊗◌ shifted doubled ◌⊕◌
split_16 x h = eqb→eq (bit_xor (x % 16 * 16) (29 ⊗ (x / 16))) (16 ⊗ x) (below high_16 256 tt x h)

split_4 : (y : ℕ) → y < 256 → y % 64 * 4 ⊕ 29 ⊗ (y / 64) ≡ 4 ⊗ y
unfolding high_4 ◌⊗◌ shifted doubled ◌⊕◌
split_4 y h = eqb→eq (bit_xor (y % 64 * 4) (29 ⊗ (y / 64))) (4 ⊗ y) (below high_4 256 tt y h)

apart : (a b c d : ℕ) → a ⊕ (b ⊕ (c ⊕ d)) ≡ a ⊕ c ⊕ (b ⊕ d)
apart a b c d = simp sums

pub sixteen_four : (x y v : ℕ) → x < 256 → y < 256 → v * 4 ⊕ (x / 16 ⊕ y / 64) ≡ 29 ⊗ (x / 16 ⊕ y / 64)
    → x % 16 * 16 ⊕ (y % 64 * 4 ⊕ v * 4) ⊕ (x / 16 ⊕ y / 64) ≡ 16 ⊗ x ⊕ 4 ⊗ y
sixteen_four x y v hx hy e =
    add_assoc (x % 16 * 16) (y % 64 * 4 ⊕ v * 4) (x / 16 ⊕ y / 64)
    ∙ ap (λ (z : ℕ). x % 16 * 16 ⊕ z) (add_assoc (y % 64 * 4) (v * 4) (x / 16 ⊕ y / 64) ∙ ap (λ (z : ℕ). y % 64 * 4 ⊕ z) (e ∙ mul-add 29 (x / 16) (y / 64)))
    ∙ apart (x % 16 * 16) (y % 64 * 4) (29 ⊗ (x / 16)) (29 ⊗ (y / 64))
    ∙ ap₂ ◌⊕◌ (split_16 x hx) (split_4 y hy)

two_two : 2 ⊗ 2 ≡ 4
unfolding ◌⊗◌ shifted doubled ◌⊕◌
two_two = refl

pub four_times : (x : ℕ) → 2 ⊗ (2 ⊗ x) ≡ 4 ⊗ x
four_times x = sym (mul_assoc 2 2 x) ∙ ap (λ (y : ℕ). y ⊗ x) two_two
