-- `step` meets its contract: each of the three cases is the step of its row.
use Prim.Native.Nat.{ℕ}
use mathlib.Core.Path.{ap, ◌∙◌}
use Rattle.lanes.specs.Lanes.{onto}
use Rattle.rows.proofs.Horner.{step_add, step_double, step_quadruple}
use Rattle.rows.proofs.step.Goals as goal

pub returns-then-j-lt1 : goal.returns-then-j-lt1
returns-then-j-lt1 c =
    c.add.ensures
    ∙ ap (λ (f : ℕ → ℕ → ℕ). onto f c.args.a.now c.args.d.now) (step_add _ c.if-j-lt1.true)

pub returns-then-j-lt2 : goal.returns-then-j-lt2
returns-then-j-lt2 c =
    c.double_add.ensures
    ∙ ap (λ (f : ℕ → ℕ → ℕ). onto f c.args.a.now c.args.d.now)
    (step_double _ c.if-j-lt1.false c.if-j-lt2.true)

pub returns : goal.returns
returns c =
    c.quadruple_add.ensures
    ∙ ap (λ (f : ℕ → ℕ → ℕ). onto f c.args.a.now c.args.d.now) (step_quadruple _ c.if-j-lt2.false)
