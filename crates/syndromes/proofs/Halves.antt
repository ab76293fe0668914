-- Half of a byte and a quarter of one, by shifts.
use mathlib.Core.Path.{◌≡◌, refl, sym, ap, ◌∙◌}
use mathlib.Core.Bool.{Bool, cond}
use Prim.Native.Nat.{ℕ, ◌/◌, ◌<◌}
use lib.Bits.{bit_xor, bit_and}
use lib.Dec.{eqb, eqb→eq}
use Rattle.field.specs.Field.{◌⊕◌, ◌⊗◌, doubled, shifted}
use Rattle.field.proofs.Mul.{mul_assoc}
use Rattle.field.proofs.Below.{below}

-- a half: the lowest bit comes back as half of 1
half_ok : ℕ → Bool
half_ok x = eqb (bit_xor (x / 2) (cond (eqb (bit_and x 1) 0) 0 142)) (142 ⊗ x)

pub half : (x : ℕ) → x < 256 → bit_xor (x / 2) (cond (eqb (bit_and x 1) 0) 0 142) ≡ 142 ⊗ x
unfolding half_ok ◌⊗◌ shifted doubled ◌⊕◌
half x h = eqb→eq (bit_xor (x / 2) (cond (eqb (bit_and x 1) 0) 0 142)) (142 ⊗ x) (below half_ok 256 tt x h)

half_half : 142 ⊗ 142 ≡ 71
unfolding ◌⊗◌ shifted doubled ◌⊕◌
half_half = refl

pub quarter : (x : ℕ) → 142 ⊗ (142 ⊗ x) ≡ 71 ⊗ x
quarter x = sym (mul_assoc 142 142 x) ∙ ap (λ (y : ℕ). y ⊗ x) half_half
