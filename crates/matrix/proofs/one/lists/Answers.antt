-- `lists` meets its contract: the lists of the b lowest bits are there, and what is left of the weights is in hand.
use native.Mathlib.Nat.{not-suc-le-zero}
use native.Mathlib.Omega.{arith}
use Rattle.matrix.proofs.Listing.{rest_start, rest_turn, lists_turn}
use Rattle.matrix.proofs.one.lists.Goals as goal

pub loop-b-init : goal.loop-b-init
loop-b-init c =
    let none = rest_start _ _ _ (omega arith) c.copy.ensures in
    (none, record { at = λ b h. absurd (not-suc-le-zero h) })

pub overflow_cast-ns : goal.overflow_cast-ns
overflow_cast-ns c = omega (arith, c.odd.ensures.listed.few)

pub loop-b-preserved : goal.loop-b-preserved
loop-b-preserved c =
    let o = c.odd.ensures in
    let at = c.loop-b in (
      rest_turn _ _ _ at.b (omega arith) c.halve.ensures at.invariant.0,
      lists_turn _ _ _ _ _ _ at.b _ (omega arith) (omega arith) (omega arith) at.invariant.0 at.invariant.1 o.listed o.by_index,
    )

pub returns : goal.returns
returns c = record { at = λ b h. c.loop-b.invariant.1.at b (omega arith) }
