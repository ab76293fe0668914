-- What the papers find that a fold has to read, and to read and write, in their own form. λ is the number of stripes; k and r are the
-- old stripe's counts of data and parity columns (k^I, r^I), f is the new parity count (r^F).
use Rattle.std.specs.Prelude.{ℕ, ◌+◌, ◌-◌, ◌*◌, min, cond, ◌||◌, leb, ltb}

-- 003, Theorem 12: columns read, λ k if r < f, else λ min(k, f)
unfoldable pub columns_needed : ℕ → ℕ → ℕ → ℕ → ℕ
columns_needed n k r f = cond (ltb r f) (n * k) (n * min k f)

-- 002, formula (1), the reading part (`transfer_needed` is the whole), f times over so that no fraction is left: λ min(k, f) if r >= f or
-- k <= f, else λ (r + k (1 - r/f))
unfoldable pub bandwidth_needed : ℕ → ℕ → ℕ → ℕ → ℕ
bandwidth_needed n k r f = cond (leb f r || leb k f) (n * min k f * f) (n * (r * f + k * (f - r)))

-- 003, Theorem 15: columns read and written, r^F + λ k if r < f, else r^F + λ min(k, f)
unfoldable pub access_needed : ℕ → ℕ → ℕ → ℕ → ℕ
access_needed n k r f = cond (ltb r f) (f + n * k) (f + n * min k f)

-- 002, formula (1), whole, f times over: λ min(k, f) + r^F if r >= f or k <= f, else λ (r + k (1 - r/f)) + r^F
unfoldable pub transfer_needed : ℕ → ℕ → ℕ → ℕ → ℕ
transfer_needed n k r f = cond (leb f r || leb k f) ((n * min k f + f) * f) (n * (r * f + k * (f - r)) + f * f)
