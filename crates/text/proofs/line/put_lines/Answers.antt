-- The lines of the columns before the place are written.
use Prim.Native.Nat.{ℕ, ◌+◌}
use mathlib.Core.Path.{ap, ◌∙◌}
use mathlib.Core.List.{List}
use native.Mathlib.Omega.{arith}
use lib.ListN.{length, length-take, length-drop}
use Rattle.stripe.proofs.Places.{column_inside}
use Rattle.field.specs.Bytes.{over}
use Rattle.text.specs.Text.{column_lines}
use Rattle.field.proofs.Over.{over_none}
use Rattle.text.proofs.Lines.{line_from, line_room, lines_turn}
use Rattle.text.proofs.line.put_lines.Goals as goal

pub loop-c-init : goal.loop-c-init
unfolding column_lines
loop-c-init c = (omega arith, over_none _ _)

pub put_line-next-requires : goal.put_line-next-requires
put_line-next-requires c =
    let a = c.args in
    line_room a.out.now c.loop-c.out c.loop-c.out a.at c.loop-c.next c.loop-c.next a.l a.n c.loop-c.c a.lost.now a.stripe.now c.loop-c-test.true
    c.requires.1 c.is_lost.result _ c.is_lost.ensures
    (simp (length-take, length-drop) (omega (arith, column_inside c.loop-c.c a.n a.l c.loop-c-test.true, c.requires.0)))
    c.requires.0 c.loop-c.invariant.0 c.loop-c.auto.out

pub loop-c-preserved : goal.loop-c-preserved
loop-c-preserved c =
    let v = c.put_line-next in
    let w = c.is_lost in
    let e = line_from c.args.l c.args.lost.now c.loop-c.c c.args.stripe.now w.result w.ensures in
    lines_turn c.args.out.now c.loop-c.out v.new.out c.args.at c.loop-c.next v.result c.args.l c.args.n c.loop-c.c
    c.args.lost.now c.args.stripe.now
    c.loop-c-test.true c.requires.1 c.loop-c.invariant.0 c.loop-c.invariant.1
    (v.ensures.value ∙ ap (λ (xs : List ℕ). c.loop-c.next + length xs) e) (v.ensures.out_after ∙ ap (over c.loop-c.out c.loop-c.next) e)
