-- The pairs of the positions before the place are written.
use Prim.Native.Nat.{◌*◌}
use mathlib.Core.Path.{◌∙◌}
use mathlib.Core.List.{[], ◌∷◌}
use native.Mathlib.Omega.{arith}
use lib.ListN.{get_or}
use Rattle.answer.specs.Answer.{pairs}
use Rattle.field.proofs.Over.{over_none}
use Rattle.text.proofs.Pieces.{part_put}
use Rattle.answer.proofs.Pairs.{pairs-length, pairs-one, pairs_turn, pairs_done}
use Rattle.answer.proofs.mended.put_pairs.Goals as goal

pub loop-i-init : goal.loop-i-init
unfolding pairs
loop-i-init c = over_none _ _

pub loop-i-preserved : goal.loop-i-preserved
loop-i-preserved c =
    let w = c.args.lost.now in
    let i = c.loop-i.i in
    let x = get_or w i 0 in
    pairs_turn c.args.list.now w c.loop-i.list _ i c.loop-i-test.true c.requires c.loop-i.invariant
    (part_put c.loop-i.list _ (pairs (x ∷ [])) (2 * i) _
    (c.copy_from_slice.ensures.after ∙ c.to_le_bytes.ensures ∙ pairs-one x (omega (arith, c.type_inv.lost i)))
    (omega (arith, pairs-length (x ∷ []))))

pub returns : goal.returns
returns c =
    pairs_done c.args.list.now c.args.lost.now c.loop-i.list c.loop-i.i (omega arith) c.requires c.loop-i.invariant
