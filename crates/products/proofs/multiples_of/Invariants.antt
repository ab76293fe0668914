-- `products::multiples_of` meets its contract: each number before place i is twice the one before.
use mathlib.Core.Path.{◌≡◌}
use Prim.Native.Nat.{ℕ, ◌+◌, ◌<◌}
use lib.ListN.{length, get_or}
use Rattle.field.specs.Field.{◌⊗◌}
use Rattle.products.proofs.multiples_of.Given as goal

abbrev pub invariant-loop-i : goal.invariant-loop-i
invariant-loop-i l =
    (length l.m ≡ 8) × ((get_or l.m 0 0 ≡ l.c) × ((k : ℕ) → k + 1 < l.i → get_or l.m (k + 1) 0 ≡ 2 ⊗ get_or l.m k 0))
