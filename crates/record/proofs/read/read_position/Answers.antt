-- `read_position` meets its contract, by the order of its tests.
use mathlib.Core.Path.{sym, ap, ◌∙◌}
use native.Mathlib.Omega.{arith}
use Rattle.stripe.specs.declared.refusal.Refusal.TheVariants as refusal
use Rattle.stripe.proofs.Refused.{handed_on}
use Rattle.number.specs.Number.{number_at, number_refusal, value_of}
use Rattle.number.proofs.Reported.{flaw_refused}
use Rattle.record.proofs.Refusals.{position_number, position_low, position_high, position_lawful}
use Rattle.record.proofs.read.read_position.Goals as goal
use Rattle.record.proofs.read.read_position.Goals.{then-position-least-via-then-position-least, then-position-least-via-else-position-least+then-n-position}

pub returns-in_err-position-clause-refusal : goal.returns-in_err-position-clause-refusal
returns-in_err-position-clause-refusal c =
    let a = c.args in
    let e = c.in_err-position in
    handed_on _ refusal.Cut c.from_residual.ensures.1
    ∙ position_number (number_at a.s.now a.at) a.least a.n 9 (flaw_refused e.field-0.0 _ e.ensures) (λ z. omega arith)

pub returns-then-position-least-clause-refusal : goal.returns-then-position-least-clause-refusal
returns-then-position-least-clause-refusal c =
    let a = c.args in
    let g = c.in_ok-position.ensures in
    let number = sym (ap number_refusal g) in
    let v = ap value_of g in
    elim c.then-position-least.branch [
      | then-position-least-via-then-position-least w ↦ position_low (number_at a.s.now a.at) a.least a.n number (omega arith)
      | then-position-least-via-else-position-least+then-n-position w ↦ position_high (number_at a.s.now a.at) a.least a.n number (omega arith) (omega arith)
    ]

pub returns-clause-refusal : goal.returns-clause-refusal
returns-clause-refusal c =
    let a = c.args in
    let g = c.in_ok-position.ensures in
    let v = ap value_of g in
    position_lawful (number_at a.s.now a.at) a.least a.n (sym (ap number_refusal g)) (omega arith) (omega arith)
