-- `ascending` meets its contract: the first powers are there, and x is the next.
use Prim.Native.Nat.{ℕ}
use mathlib.Core.Path.{refl, sym, ap, ◌∙◌}
use native.Mathlib.Nat.{not-suc-le-zero}
use native.Mathlib.Omega.{arith}
use Rattle.field.specs.Field.{◌⊗◌, gpow}
use Rattle.field.proofs.Mul.{gpow-zero}
use Rattle.lagrange.proofs.Lanes.{set_turn}
use Rattle.constants.proofs.Points.{tabulated, power_next}
use Rattle.constants.proofs.ascending.Goals as goal

pub loop-place-init : goal.loop-place-init
loop-place-init c = (sym gpow-zero, λ q h. absurd (not-suc-le-zero h))

pub loop-place-preserved : goal.loop-place-preserved
loop-place-preserved c =
    let at = c.loop-place in
    let next = c.double-x.ensures ∙ ap (λ (x : ℕ). 2 ⊗ x) at.invariant.0 ∙ power_next at.place-index _ refl in
    (next, set_turn at.out gpow at.place-index _ (omega arith) at.invariant.0 at.invariant.1)

pub returns : goal.returns
returns c =
    let at = c.loop-place in
    tabulated gpow _ _ at.auto.out (λ q h. at.invariant.1 q (omega arith))
