-- The field of 256 elements (document 01, 'Field and weights'), by definition. A byte is a polynomial over two elements,
-- bit 0 the constant term. Every definition is total on ℕ and computes; no table and no logarithm stands here.
use Rattle.std.specs.Prelude.{ℕ, zero, suc, ◌*◌, ◌/◌, ◌%◌}
use Rattle.std.specs.Int.Bits.{bit_xor}

infixl 65 ◌⊕◌
infixl 70 ◌⊗◌
-- what products are reduced by: x^8 + x^4 + x^3 + x^2 + 1
abbrev pub polynomial : ℕ
polynomial = 0x11D

-- g, whose powers are all the non-zero bytes
abbrev pub generator : ℕ
generator = 0x02

-- how many non-zero bytes there are
abbrev pub order : ℕ
order = 255

-- the sum: exclusive or
unfoldable pub ◌⊕◌ : ℕ → ℕ → ℕ
a ⊕ b = bit_xor a b

-- a bit times a byte
abbrev pub times : ℕ → ℕ → ℕ
times zero b = 0
times (suc d) b = b

-- x times a byte: its bits moved up by one, less the polynomial where the bit of x^7 was set
unfoldable pub doubled : ℕ → ℕ
doubled a = a * 2 ⊕ times (a / 128 % 2) polynomial

-- the sum, over the n lowest bits of a, of the bit times b, times x b, times x^2 b, and so on
unfoldable pub shifted : ℕ → ℕ → ℕ → ℕ
shifted zero a b = 0
shifted (suc n) a b = times (a % 2) b ⊕ shifted n (a / 2) (doubled b)

-- the product; of a number that is no byte its 8 lowest bits count
unfoldable pub ◌⊗◌ : ℕ → ℕ → ℕ
a ⊗ b = shifted 8 a (b % 256)

-- the n-th power of a
unfoldable pub power : ℕ → ℕ → ℕ
power a zero = 1
power a (suc n) = a ⊗ power a n

-- g^n
unfoldable pub gpow : ℕ → ℕ
gpow n = power generator n

-- the inverse, which is the power of 254 since a non-zero byte to the power of 255 is 1; of zero it is zero
unfoldable pub inverse_of : ℕ → ℕ
inverse_of a = power a 254
