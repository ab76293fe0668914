-- `Gf::inverse` meets its contract: of zero it is zero, and of any other byte Euclid's algorithm runs to the inverse.
use mathlib.Core.Path.{◌≡◌}
use Prim.Native.Nat.{ℕ, ◌+◌, ◌*◌, ◌^◌, ◌<◌, ◌/◌}
use native.Mathlib.Omega.{arith}
use Rattle.field.proofs.Euclid.{Runs}
use Rattle.field.proofs.Gf.inverse.Given as goal

pub high : (a : ℕ) → (a * 65536 + 1) / 65536 ≡ a
high a = omega arith

-- the byte is the high half of what v is at first
abbrev pub invariant-loop-v : goal.invariant-loop-v
invariant-loop-v l = (l.u < 2 ^ 32) × ((l.v < 2 ^ 32) × Runs (l.initial.v / 65536) l.u l.v)

abbrev pub decreases-loop-v : goal.decreases-loop-v
decreases-loop-v l = l.v
