-- `judge_positions` meets its contract: the refusal of the positions left is that of all, and so is the place after them.
use Prim.Native.Nat.{ℕ, ◌+◌, ◌-◌}
use mathlib.Core.Path.{sym, ap, ap₂, ◌∙◌}
use native.Mathlib.Omega.{arith}
use Rattle.stripe.proofs.Refused.{handed_on, refused_some}
use Rattle.number.specs.Number.{value_of, next_of}
use Rattle.record.specs.Reading.{positions_refusal, after_positions}
use Rattle.record.proofs.Listing.{value_most}
use Rattle.record.proofs.Refusals.{positions_stop, positions_turn, after_turn, positions_done}
use Rattle.record.proofs.Survivors.{all_left}
use Rattle.record.proofs.read.judge_positions.Goals as goal

pub loop-init : goal.loop-init
loop-init c =
    let a = c.args in (
      ap (λ (i : ℕ). positions_refusal a.s.now a.n i 0 a.first) (all_left a.m),
      ap (λ (i : ℕ). after_positions a.s.now i a.first) (all_left a.m),
    )

pub returns-in_err-position-clause-refusal : goal.returns-in_err-position-clause-refusal
returns-in_err-position-clause-refusal c =
    let a = c.args in
    let v = c.loop in
    let e = c.in_err-position in
    let h = refused_some e.field-0.0 in
    handed_on _ e.field-0.0 c.from_residual.ensures.1
    ∙ positions_stop a.s.now a.n a.m v.counter v.least v.at c.loop-test.true _ e.ensures.refusal (λ z. omega arith)
    ∙ v.invariant.0

pub overflow_add-least : goal.overflow_add-least
overflow_add-least c = omega (arith, value_most c.args.s.now c.loop.at, ap value_of c.in_ok-position.ensures.ok)

pub loop-preserved : goal.loop-preserved
loop-preserved c =
    let a = c.args in
    let v = c.loop in
    let g = c.in_ok-position.ensures in
    let t = c.loop-test.true in (
      ap₂ (λ (p q : ℕ). positions_refusal a.s.now a.n (a.m - (v.counter + 1)) (p + 1) q) (ap value_of g.ok) (ap next_of g.ok)
          ∙ positions_turn a.s.now a.n a.m v.counter v.least v.at t (sym g.refusal)
          ∙ v.invariant.0,
      ap (after_positions a.s.now (a.m - (v.counter + 1))) (ap next_of g.ok) ∙ after_turn a.s.now a.n a.m v.counter v.least v.at t ∙ v.invariant.1,
    )

pub returns : goal.returns
returns c =
    let a = c.args in
    let v = c.loop in
    let d = positions_done a.s.now a.n a.m v.counter v.least v.at c.loop-test.false in
    record { refusal = d.0 ∙ v.invariant.0; ok = d.1 ∙ v.invariant.1 }
