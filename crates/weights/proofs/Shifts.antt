-- Eight and sixteen times a byte by shifts: the highest bits come back times x^4 + x^3 + x^2 + 1.
use mathlib.Core.Path.{◌≡◌}
use mathlib.Core.Bool.{Bool}
use Prim.Native.Nat.{ℕ, ◌*◌, ◌/◌, ◌%◌, ◌<◌}
use lib.Bits.{bit_xor}
use lib.Dec.{eqb, eqb→eq}
use Rattle.field.specs.Field.{◌⊕◌, ◌⊗◌, doubled, shifted}
use Rattle.field.proofs.Below.{below}

eight : ℕ → ℕ
eight x = bit_xor (bit_xor (bit_xor (bit_xor x (x / 32) % 32 * 8) (x / 32)) (x / 32 * 4)) (x / 32 * 16)

eight_ok : ℕ → Bool
eight_ok x = eqb (eight x) (8 ⊗ x)

pub eight_times : (x : ℕ) → x < 256 → bit_xor (bit_xor (bit_xor (bit_xor x (x / 32) % 32 * 8) (x / 32)) (x / 32 * 4)) (x / 32 * 16) ≡ 8 ⊗ x
unfolding eight eight_ok ◌⊗◌ shifted doubled ◌⊕◌
eight_times x h = eqb→eq (eight x) (8 ⊗ x) (below eight_ok 256 tt x h)

sixteen : ℕ → ℕ
sixteen x = bit_xor (bit_xor (bit_xor (bit_xor x (x / 16) % 16 * 16) (x / 16)) (x / 16 * 4)) (x / 16 * 8)

sixteen_ok : ℕ → Bool
sixteen_ok x = eqb (sixteen x) (16 ⊗ x)

pub sixteen_times : (x : ℕ) → x < 256 → bit_xor (bit_xor (bit_xor (bit_xor x (x / 16) % 16 * 16) (x / 16)) (x / 16 * 4)) (x / 16 * 8) ≡ 16 ⊗ x
unfolding sixteen sixteen_ok ◌⊗◌ shifted doubled ◌⊕◌
sixteen_times x h = eqb→eq (sixteen x) (16 ⊗ x) (below sixteen_ok 256 tt x h)
