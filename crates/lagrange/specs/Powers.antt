-- A map that takes sums to sums, by what it makes of the powers of two: what it makes of a byte.
use Rattle.std.specs.Prelude.{ℕ, cond, eqb}
use Rattle.std.specs.Int.Bits.{bit_and}
use Rattle.field.specs.Field.{◌⊕◌}
use Rattle.lagrange.specs.declared.inverse.Images.{Images}

-- t where x has a bit of b, else 0
abbrev taken : ℕ → ℕ → ℕ → ℕ
taken x b t = cond (eqb (bit_and x b) 0) 0 t

-- the sum of what is made of its bits
abbrev pub image_of : Images → ℕ → ℕ
image_of m x =
    taken x 1 m.t0 ⊕ taken x 2 m.t1 ⊕ taken x 4 m.t2 ⊕ taken x 8 m.t3
    ⊕ taken x 16 m.t4 ⊕ taken x 32 m.t5 ⊕ taken x 64 m.t6 ⊕ taken x 128 m.t7
