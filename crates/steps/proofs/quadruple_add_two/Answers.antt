-- `quadruple_add_two` meets its contract: after q turns the q first places are done.
use native.Mathlib.Omega.{arith}
use mathlib.Core.Path.{sym, ap, ◌∙◌}
use Prim.Native.Nat.{ℕ, ◌+◌}
use lib.ListN.{get_or}
use Rattle.field.specs.Field.{◌⊕◌, ◌⊗◌}
use Rattle.field.proofs.Xor.{add_assoc}
use Rattle.lanes.proofs.Onto.{start, turn, done, both_at, both_long, shortest}
use Rattle.steps.proofs.quadruple_add_two.Invariants.{lower}
use Rattle.steps.proofs.quadruple_add_two.Goals as goal

pub loop-q-init : goal.loop-q-init
loop-q-init c = start _ _ _

pub loop-q-preserved : goal.loop-q-preserved
unfolding ◌⊕◌
loop-q-preserved c =
    let at = c.loop-q in
    let ds = c.args.d.now in
    let es = c.args.e.now in
    let x = get_or at.a at.q 0 in
    let y = get_or ds at.q 0 in
    let z = get_or es at.q 0 in
    turn _ at.invariant (omega arith) (omega (arith, both_long lower ds es (at.q + 1) (omega arith) (omega arith)))
    (ap (λ (r : ℕ). r ⊕ z) c.sixteen_and_four.ensures
    ∙ add_assoc (16 ⊗ x) (4 ⊗ y) z
    ∙ ap (λ (w : ℕ). 16 ⊗ x ⊕ w) (sym (both_at lower ds es at.q (omega arith) (omega arith))))

pub returns : goal.returns
returns c =
    let s = c.args in
    done c.loop-q.invariant c.loop-q-test.false
    (shortest lower s.a.now s.d.now s.e.now _ _ c.shorter-n.ensures.1.1 c.shorter-q-end.ensures.1.1)
