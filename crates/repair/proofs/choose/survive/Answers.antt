-- `survive` meets its contract: the survivors below c are there, and the lost positions passed are those below c.
use Prim.Native.Nat.{◌<◌}
use mathlib.Core.Path.{refl, sym, ap, ◌∙◌}
use native.Mathlib.Omega.{arith}
use lib.ListN.{length, length-set}
use borrow.Author.Rules.{rules}
use Rattle.repair.proofs.Chosen.{walk_start, walk_lost, walk_kept, walk_done, walk_as, lost_in_lem, kept_room}
use Rattle.repair.proofs.choose.survive.Goals as goal
use Rattle.repair.proofs.choose.survive.Goals.{Else-is_next, then-is_next, else-is_next}

-- a position that survives has room
room : (c : Else-is_next) → c.loop-c.m < length c.loop-c.out
room c =
    let at = c.loop-c in
    kept_room _ _ at.c at.v at.m at.out at.invariant.2 c.loop-c-test.true (sym c.is_next.ensures ∙ c.if-is_next.false)

pub loop-c-init : goal.loop-c-init
loop-c-init c = (refl, search rules, walk_start _ _ _ refl c.requires.1)

pub bounds-out-m : goal.bounds-out-m
bounds-out-m c = room c

pub overflow_add-m : goal.overflow_add-m
overflow_add-m c = omega (arith, room c)

pub loop-c-preserved : goal.loop-c-preserved
loop-c-preserved c =
    let at = c.loop-c in
    let more = c.loop-c-test.true in
    let is = sym c.is_next.ensures in
    elim c.if-is_next.branch [
      | then-is_next w ↦
          let next = is ∙ w.if-is_next.true in (
            ap length w.out-is ∙ at.invariant.0,
            omega (arith, w.v-is, lost_in_lem _ _ at.c at.v at.m at.out at.invariant.2 more next),
            walk_as _ _ _ _ _ _ _ _ _ w.out-is w.v-is w.m-is (walk_lost _ _ at.c at.v at.m at.out at.invariant.2 more next),
          )
      | else-is_next w ↦
          let other = is ∙ w.if-is_next.false in (
            ap length w.out-is ∙ length-set at.out at.m at.c ∙ at.invariant.0,
            omega (arith, w.v-is, at.invariant.1),
            walk_as _ _ _ _ _ _ _ _ _ w.out-is w.v-is w.m-is (walk_kept _ _ at.c at.v at.m at.out at.invariant.2 more other),
          )
    ]

pub returns : goal.returns
returns c = walk_done _ _ _ _ _ _ c.loop-c.invariant.2 c.loop-c-test.false
