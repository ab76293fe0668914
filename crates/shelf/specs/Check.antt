-- The check, for C: what it leaves in the two numbers that it is lent.
use Rattle.std.specs.Prelude.{ℕ}
use Rattle.checking.specs.Check.{Wrong, Nowhere, At, Refused}

-- the parity column that first disagrees, or what the number was
abbrev pub column_left : Wrong → ℕ → ℕ
column_left Nowhere x = x
column_left (At i p) x = i
column_left (Refused n) x = x

-- the place in it, or what the number was
abbrev pub place_left : Wrong → ℕ → ℕ
place_left Nowhere x = x
place_left (At i p) x = p
place_left (Refused n) x = x
