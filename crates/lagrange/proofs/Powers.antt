-- Powers: of a power, and by what a map makes of the bits. That the maps of the source raise to 2, 4 and 16 is tried for every byte.
use mathlib.Core.Path.{◌≡◌, sym, ap, ap₂, ◌∙◌}
use mathlib.Core.Bool.{Bool}
use Prim.Native.Nat.{ℕ, zero, suc, ◌*◌, ◌<◌}
use native.Mathlib.Nat.{suc-mul, add_comm, zero-mul}
use lib.Dec.{eqb, eqb→eq}
use Rattle.field.specs.Field.{◌⊕◌, ◌⊗◌, shifted, doubled, power, inverse_of}
use Rattle.field.proofs.Mul.{mul_comm, power-suc, power_zero, power-add}
use Rattle.field.proofs.Below.{below}
use Rattle.lagrange.specs.declared.inverse.Images.{Images}
use Rattle.lagrange.specs.Powers.{image_of}

-- ---- maps

raises : Images → ℕ → ℕ → Bool
raises m n x = eqb (image_of m x) (power x n)

abbrev pub squares : Images
squares = record { t0 = 0x01; t1 = 0x04; t2 = 0x10; t3 = 0x40; t4 = 0x1d; t5 = 0x74; t6 = 0xcd; t7 = 0x13 }

pub squared : (x : ℕ) → x < 256 → image_of squares x ≡ power x 2
unfolding raises power ◌⊗◌ shifted doubled ◌⊕◌
squared x h = eqb→eq (image_of squares x) (power x 2) (below (raises squares 2) 256 tt x h)

abbrev pub fourths : Images
fourths = record { t0 = 0x01; t1 = 0x10; t2 = 0x1d; t3 = 0xcd; t4 = 0x4c; t5 = 0xb4; t6 = 0x8f; t7 = 0x18 }

pub to_fourth : (x : ℕ) → x < 256 → image_of fourths x ≡ power x 4
unfolding raises power ◌⊗◌ shifted doubled ◌⊕◌
to_fourth x h = eqb→eq (image_of fourths x) (power x 4) (below (raises fourths 4) 256 tt x h)

abbrev pub sixteenths : Images
sixteenths = record { t0 = 0x01; t1 = 0x4c; t2 = 0x9d; t3 = 0x46; t4 = 0x5f; t5 = 0xfd; t6 = 0xd9; t7 = 0x81 }

pub to_sixteenth : (x : ℕ) → x < 256 → image_of sixteenths x ≡ power x 16
unfolding raises power ◌⊗◌ shifted doubled ◌⊕◌
to_sixteenth x h = eqb→eq (image_of sixteenths x) (power x 16) (below (raises sixteenths 16) 256 tt x h)

-- ---- powers

power_power : (a m n : ℕ) → power (power a m) n ≡ power a (n * m)
power_power a m zero = power_zero (power a m) ∙ sym (ap (power a) (zero-mul m) ∙ power_zero a)
power_power a m (suc n) =
    power-suc (power a m) n ∙ ap (λ (x : ℕ). power a m ⊗ x) (power_power a m n) ∙ sym (power-add a m (n * m))
    ∙ ap (power a) (add_comm m (n * m) ∙ sym (suc-mul n m))

-- the steps of the source
pub inverse_made : (x : ℕ) {x2 x3 x12 x14 x15 x240 x254 : ℕ} → x2 ≡ power x 2 → x3 ≡ x2 ⊗ x → x12 ≡ power x3 4 → x14 ≡ x12 ⊗ x2
    → x15 ≡ x12 ⊗ x3 → x240 ≡ power x15 16 → x254 ≡ x240 ⊗ x14 → x254 ≡ inverse_of x
unfolding inverse_of
inverse_made x {x2} {x3} {x12} {x14} {x15} {x240} two three twelve fourteen fifteen many all =
    all ∙ ap₂ ◌⊗◌ is_240 is_14 ∙ sym (power-add x 240 14)
  where
    is_3 : x3 ≡ power x 3
    is_3 = three ∙ ap (λ (y : ℕ). y ⊗ x) two ∙ mul_comm (power x 2) x ∙ sym (power-suc x 2)

    is_12 : x12 ≡ power x 12
    is_12 = twelve ∙ ap (λ (y : ℕ). power y 4) is_3 ∙ power_power x 3 4

    is_14 : x14 ≡ power x 14
    is_14 = fourteen ∙ ap₂ ◌⊗◌ is_12 two ∙ sym (power-add x 12 2)

    is_15 : x15 ≡ power x 15
    is_15 = fifteen ∙ ap₂ ◌⊗◌ is_12 is_3 ∙ sym (power-add x 12 3)

    is_240 : x240 ≡ power x 240
    is_240 = many ∙ ap (λ (y : ℕ). power y 16) is_15 ∙ power_power x 15 16
