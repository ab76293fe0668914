-- `add_below` meets its contract: at the places below b the rows are as they are to be, and whole blocks are left.
use Prim.Native.Nat.{◌+◌, ◌*◌, ◌%◌, ◌≤◌}
use mathlib.Core.Path.{refl, sym, ◌∙◌}
use native.Mathlib.Omega.{arith}
use Rattle.syndromes.proofs.Upwards.{places_at, rows_by}
use Rattle.syndromes.proofs.apart.add_below.Goals as goal
use Rattle.syndromes.proofs.apart.add_below.Goals.{then-n-gt0, else-n-gt0}

pub add_rows-requires : goal.add_rows-requires
add_rows-requires c =
    let h = c.requires in
    (places_at 0 h.0 (omega (arith, h.0.length_some)), (omega arith, h.1))

pub add_row2-requires : goal.add_row2-requires
add_row2-requires c =
    let h = c.requires in
    (places_at 0 h.0 (omega (arith, h.0.length_some)), (omega arith, c.add_rows.ensures))

pub loop-b-init : goal.loop-b-init
loop-b-init c =
    elim c.if-n-gt0.branch
    [ then-n-gt0 w ↦ rows_by (omega arith) w.out-is w.add_row2.ensures | else-n-gt0 w ↦ rows_by (omega (arith, w.if-n-gt0.false)) w.out-is c.requires.1 ]

pub add_rows-requires-in-loop-b : goal.add_rows-requires-in-loop-b
add_rows-requires-in-loop-b c =
    let at = c.loop-b in
    let fits : c.args.s.l % 64 + at.b * 64 + 64 ≤ c.args.s.l = omega (arith, c.loop-b-test.true) in
    (places_at _ c.requires.0 fits, (omega arith, at.invariant))

pub add_row2-requires-in-loop-b : goal.add_row2-requires-in-loop-b
add_row2-requires-in-loop-b c =
    let fits : c.args.s.l % 64 + c.loop-b.b * 64 + 64 ≤ c.args.s.l = omega (arith, c.loop-b-test.true) in
    (places_at _ c.requires.0 fits, (omega arith, c.add_rows-in-loop-b.ensures))

pub loop-b-preserved : goal.loop-b-preserved
loop-b-preserved c = rows_by (omega arith) refl c.add_row2-in-loop-b.ensures

pub shape_of-out : goal.shape_of-out
shape_of-out c = c.loop-b.invariant.long ∙ sym c.requires.1.long

pub returns : goal.returns
returns c = rows_by (omega (arith, c.loop-b-test.false)) refl c.loop-b.invariant
