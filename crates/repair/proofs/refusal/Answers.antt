-- `refusal` meets its contract: each test of the code is one of the definition's.
use mathlib.Core.Path.{◌≡◌, sym, ◌∙◌}
use mathlib.Core.Bool.{true}
use native.Mathlib.Omega.{arith}
use Rattle.repair.specs.Repair.{repair_fits}
use Rattle.repair.proofs.Refused.{unfit, unordered, too_many, passes, numbers_fit_lem}
use Rattle.repair.proofs.refusal.Goals as goal
use Rattle.repair.proofs.refusal.Goals.{Else-not-fits}

known : (c : Else-not-fits) → let a = c.args in repair_fits a.k a.r a.l a.d ≡ true
known c = sym c.fits.ensures ∙ c.if-not-fits.false

pub returns-then-not-fits : goal.returns-then-not-fits
returns-then-not-fits c = sym (unfit _ _ _ _ _ (sym c.fits.ensures ∙ c.if-not-fits.true))

pub overflow_add-k : goal.overflow_add-k
overflow_add-k c = omega (arith, (numbers_fit_lem _ _ _ _ (known c)).points_most)

pub returns-then-not-ascends : goal.returns-then-not-ascends
returns-then-not-ascends c = sym
    (unordered _ _ _ _ _ (known (goal.at.returns-then-not-ascends c).Else-not-fits) (sym c.ascends.ensures ∙ c.if-not-ascends.true))

pub returns-then-r-lost : goal.returns-then-r-lost
returns-then-r-lost c =
    sym (too_many _ _ _ _ _ (known (goal.at.returns-then-r-lost c).Else-not-fits) (sym c.ascends.ensures ∙ c.if-not-ascends.false)
    c.if-r-lost.true)

pub returns : goal.returns
returns c =
    sym (passes _ _ _ _ _ (known (goal.at.returns c).Else-not-fits) (sym c.ascends.ensures ∙ c.if-not-ascends.false)
    c.if-r-lost.false)
