-- `Gf::power` meets its contract: powers come round after 255, and one is the square of that of half as much, doubled where one is left.
use mathlib.Core.Path.{ap₂, ◌∙◌}
use Rattle.field.specs.Field.{◌⊗◌}
use Rattle.field.proofs.Mul.{gpow-mod}
use Rattle.field.proofs.Shifting.{shift_power, even_power, odd_power}
use Rattle.field.proofs.Gf.power.Goals as goal

pub returns-then-n-lt8 : goal.returns-then-n-lt8
returns-then-n-lt8 c = shift_power _ c.if-n-lt8.true

pub returns-then-m-eq0 : goal.returns-then-m-eq0
returns-then-m-eq0 c =
    let half = c.low_power-2.ensures in
    even_power _ _ c.if-m-eq0.true (c.product-even.ensures ∙ ap₂ ◌⊗◌ half half) ∙ gpow-mod _

pub returns : goal.returns
returns c =
    let half = c.low_power-2.ensures in
    odd_power _ _ _ c.if-m-eq0.false (c.product-even.ensures ∙ ap₂ ◌⊗◌ half half) c.double.ensures ∙ gpow-mod _
