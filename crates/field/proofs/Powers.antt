-- The powers of g are all the non-zero bytes, each once; and no two bytes have one square.
use mathlib.Core.Path.{◌≡◌, refl, sym, ap, ◌∙◌}
use Prim.Native.Nat.{ℕ, zero, suc, ◌<◌}
use native.Mathlib.Omega.{arith}
use lib.ListN.{get_or}
use Rattle.field.specs.Field.{◌⊕◌, ◌⊗◌, gpow, order}
use Rattle.field.proofs.Tables.{logarithms}
use Rattle.field.proofs.Xor.{add_self, add_cancel, add-zero, add_comm, add-lt}
use Rattle.field.proofs.Mul.{log_lt, log_at, gpow_inj, gpow_255, mul_pos, products}

-- each non-zero byte is a power
pub power_of : (a : ℕ) → 0 < a → a < 256 → (n : ℕ) × ((n < order) × (gpow n ≡ a))
power_of a p h = (get_or logarithms a 0, (log_lt a h, log_at a p h))

-- and of one exponent below the order only
pub power_once : (m n : ℕ) → m < order → n < order → gpow m ≡ gpow n → m ≡ n
power_once = gpow_inj

-- there the powers begin anew
pub power_round : gpow order ≡ 1
power_round = gpow_255

-- two bytes whose sum is 0 are one
pub sum_zero : (a b : ℕ) → a ⊕ b ≡ 0 → a ≡ b
sum_zero a b e = sym (add_cancel b a) ∙ ap (λ (x : ℕ). b ⊕ x) (add_comm b a ∙ e) ∙ add-zero b

square_sum : (a b : ℕ) → (a ⊕ b) ⊗ (a ⊕ b) ≡ a ⊗ a ⊕ b ⊗ b
square_sum a b = simp products

-- no product of non-zero bytes is 0
pub no_divisors : (a b : ℕ) → a < 256 → b < 256 → 0 < a → a ⊗ b ≡ 0 → b ≡ 0
no_divisors a zero ha hb p e = refl
no_divisors a (suc b) ha hb p e = absurd (omega (arith, e, mul_pos a ha (suc b) hb p (omega arith)))

zero_square : (c : ℕ) → c < 256 → c ⊗ c ≡ 0 → c ≡ 0
zero_square zero h e = refl
zero_square (suc c) h e = no_divisors (suc c) (suc c) h h (omega arith) e

pub square_inj : (a b : ℕ) → a < 256 → b < 256 → a ⊗ a ≡ b ⊗ b → a ≡ b
square_inj a b ha hb e =
    sum_zero a b (zero_square (a ⊕ b) (add-lt 8 a b ha hb) (square_sum a b ∙ ap (λ (x : ℕ). x ⊕ b ⊗ b) e ∙ add_self (b ⊗ b)))
