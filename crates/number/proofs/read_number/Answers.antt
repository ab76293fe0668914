-- `read_number` meets its contract: five groups, of which the value is at most 2^32-1.
use mathlib.Core.Path.{ap, ◌∙◌}
use Rattle.number.specs.Number.{limited}
use Rattle.number.proofs.Groups.{limited_above, limited_within}
use Rattle.number.proofs.Reported.{flaw_handed_on, flaw_limited}
use Rattle.number.proofs.read_number.Goals as goal

pub returns-in_err-number : goal.returns-in_err-number
returns-in_err-number c =
    let e = c.in_err-number.field-0.0 in
    flaw_handed_on _ e c.from_residual.ensures.1 ∙ flaw_limited e ∙ ap limited c.in_err-number.ensures

pub returns-then-number-gt4294967295 : goal.returns-then-number-gt4294967295
returns-then-number-gt4294967295 c = limited_above _ _ _ c.in_ok-number.ensures c.if-number-gt4294967295.true

pub returns : goal.returns
returns c = limited_within _ _ _ c.in_ok-number.ensures c.if-number-gt4294967295.false
