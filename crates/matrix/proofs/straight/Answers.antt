-- `straight` meets its contract: Horner's rule over the bits from b on.
use Prim.Native.Nat.{ℕ, ◌+◌, ◌-◌}
use mathlib.Core.Path.{◌≡◌, ap, sym, ◌∙◌}
use native.Mathlib.Omega.{arith}
use lib.ListN.{get_or}
use Rattle.field.specs.Field.{◌⊕◌, ◌⊗◌}
use Rattle.matrix.specs.Sums.{picked, row_value}
use Rattle.matrix.proofs.Horner.{fall_none, fall_turn, fall_done}
use Rattle.matrix.proofs.straight.Goals as goal

pub loop-b-init : goal.loop-b-init
loop-b-init c = λ q h.
    let place : 0 + q ≡ q = omega arith in
    c.block-y.ensures q h ∙ ap (λ (x : ℕ). get_or c.args.t.now x 0) place ∙ c.requires.1.1.1.1.0 q h ∙ sym (fall_none 8 _)

pub bit_step-requires : goal.bit_step-requires
bit_step-requires c =
    let h = c.requires in
    let at = c.loop-b in
    (h.0, (omega arith, (h.1.1.0, (h.1.1.1.0, h.1.1.1.1.1 (at.b - 1) (omega arith)))))

pub loop-b-preserved : goal.loop-b-preserved
loop-b-preserved c =
    let at = c.loop-b in
    let t = c.args.t.now in
    let es = c.args.es.now in
    let row = c.args.row in
    let n = c.args.n in
    λ q h. c.bit_step.ensures q h ∙ ap (λ (x : ℕ). 2 ⊗ x ⊕ picked t es (row + (at.b - 1)) n q) (at.invariant q h)
    ∙ fall_turn at.b (λ d. picked t es (row + d) n q) (omega arith) (omega arith)

pub returns : goal.returns
unfolding row_value
returns c =
    let a = c.args in
    λ q h. c.loop-b.invariant q h ∙ fall_done c.loop-b.b (λ d. picked a.t.now a.es.now (a.row + d) a.n q) (omega arith)
