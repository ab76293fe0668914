-- `descending` meets its contract: the powers from place i on are there, and x is the one before them.
use Prim.Native.Nat.{ℕ, ◌+◌, ◌-◌, ◌<◌}
use mathlib.Core.Path.{◌≡◌, ap, ◌∙◌}
use native.Mathlib.Omega.{arith}
use Rattle.field.specs.Field.{◌⊗◌, gpow}
use Rattle.constants.proofs.Points.{tabulated, power_next, set_before}
use Rattle.constants.proofs.descending.Goals as goal

pub loop-i-init : goal.loop-i-init
loop-i-init c = (c.power-last.ensures, λ q h l. omega arith)

pub loop-i-preserved : goal.loop-i-preserved
loop-i-preserved c =
    let at = c.loop-i in
    let e = c.args.e in
    let some : 0 < at.i = c.loop-i-test.true in
    let own : at.x ≡ gpow (e - (at.i - 1)) = at.invariant.0 ∙ ap gpow (omega (arith, c.requires.0)) in
    let up : e + 1 - at.i + 1 ≡ e + 1 - (at.i - 1) = omega (arith, c.requires.0) in
    let next = c.double-x.ensures ∙ ap (λ (x : ℕ). 2 ⊗ x) at.invariant.0 ∙ power_next _ _ up in
    (next, set_before at.out (λ q. gpow (e - q)) _ (at.i - 1) _ (omega arith) own (λ q h. at.invariant.1 q (omega arith)))

pub returns : goal.returns
returns c =
    let at = c.loop-i in
    tabulated _ _ _ at.auto.out (λ q h. at.invariant.1 q (omega arith) (omega arith))
