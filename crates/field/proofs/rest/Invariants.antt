-- `rest` meets its contract: what is left of what has been taken from u is what is left of u.
use Prim.Native.Nat.{ℕ, ◌^◌, ◌<◌}
use Rattle.field.specs.Euclid.{Rest}
use Rattle.field.proofs.rest.Given as goal

abbrev pub invariant-loop-w : goal.invariant-loop-w
invariant-loop-w l = (l.w < 2 ^ 32) × ((r : ℕ) → Rest l.v l.w r → Rest l.v l.u r)

abbrev pub decreases-loop-w : goal.decreases-loop-w
decreases-loop-w l = l.w
