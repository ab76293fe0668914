-- A byte times another by eight masks: one term for each bit of the second.
use mathlib.Core.Path.{◌≡◌, sym, ap, ◌∙◌}
use mathlib.Core.Bool.{Bool, true, true≢false, cond}
use Prim.Native.Nat.{ℕ, zero, suc, ◌*◌, ◌/◌, ◌%◌, ◌^◌, ◌<◌}
use native.Mathlib.Nat.{zero-mul, suc-mul}
use native.Mathlib.Omega.{arith}
use lib.Bits.{bit_and}
use lib.Count.{ones}
use lib.Dec.{eqb, eqb→eq}
use borrow.Author.Tests.{eq-eqb, ne_eqb}
use Rattle.std.specs.Int.{is_power_of_two}
use Rattle.std.proofs.lemmas.Nat.{pow_pos}
use Rattle.std.proofs.lemmas.Nat.Bits.{and_pow}
use Rattle.field.specs.Field.{times}
use Rattle.field.proofs.Below.{below}

-- a mask by a power of two takes that bit
digit : (d w t : ℕ) → 0 < w → cond (eqb (d * w) 0) 0 t ≡ times d t
digit zero w t h = ap (λ (z : Bool). cond z 0 t) (eq-eqb (0 * w) 0 (zero-mul w))
digit (suc d) w t h = ap (λ (z : Bool). cond z 0 t) (ne_eqb (suc d * w) 0 (λ e. omega (arith, suc-mul d w)))

bit_of : (k x t : ℕ) → cond (eqb (bit_and x (2 ^ k)) 0) 0 t ≡ times (x / 2 ^ k % 2) t
bit_of k x t = ap (λ (z : ℕ). cond (eqb z 0) 0 t) (and_pow x k) ∙ digit (x / 2 ^ k % 2) (2 ^ k) t (pow_pos k)

-- a power of two that is a byte, as a shift makes it
power_ok : ℕ → Bool
power_ok i = eqb (1 * 2 ^ i % 256) (2 ^ i)

power_is : (i : ℕ) → i < 8 → 1 * 2 ^ i % 256 ≡ 2 ^ i
unfolding power_ok
power_is i h = eqb→eq (1 * 2 ^ i % 256) (2 ^ i) (below power_ok 8 tt i h)

-- a mask of the source
pub mask_of : (i x t : ℕ) → i < 8 → cond (eqb (bit_and x (1 * 2 ^ i % 256)) 0) 0 t ≡ times (x / 2 ^ i % 2) t
mask_of i x t h = ap (λ (b : ℕ). cond (eqb (bit_and x b) 0) 0 t) (power_is i h) ∙ bit_of i x t

-- a power of two is none of zero
pub power_positive : (c : ℕ) → is_power_of_two c ≡ true → 0 < c
unfolding ones
power_positive zero e = absurd (true≢false (sym e))
power_positive (suc c) e = omega arith
