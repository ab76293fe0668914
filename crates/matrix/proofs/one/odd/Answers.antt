-- `odd` meets its contract: of the first i numbers those whose byte is odd are listed.
use Prim.Native.Nat.{◌+◌, ◌%◌, ◌<◌}
use mathlib.Core.Path.{refl, ◌∙◌}
use native.Mathlib.Omega.{arith}
use lib.ListN.{length, get_or}
use lib.Seq.{get_or-set_other}
use Rattle.matrix.proofs.Listing.{listed_start, listed_turn, listed_done}
use Rattle.matrix.proofs.one.odd.Goals as goal

pub loop-i-init : goal.loop-i-init
loop-i-init c = (listed_start _ _ _ _, λ k h. refl)

pub loop-i-preserved : goal.loop-i-preserved
loop-i-preserved c =
    let at = c.loop-i in
    let two : c.from-n.result < 2 = omega (arith, c.from-n.ensures) in
    let fits : c.args.at + at.n < length at.ls = omega (arith, at.invariant.0.few) in (
      listed_turn (λ k. get_or c.args.p.now k 0 % 2) _ c.args.at at.i at.n c.from-n.result at.ls c.from-n.ensures two fits at.invariant.0,
      λ k h. get_or-set_other at.ls (c.args.at + at.n) k _ 0 (λ e. omega arith) ∙ at.invariant.1 k h,
    )

pub returns : goal.returns
returns c = let at = c.loop-i in
    record { listed = listed_done _ _ _ _ _ _ _ (omega arith) at.invariant.0; by_index = at.invariant.1 }
