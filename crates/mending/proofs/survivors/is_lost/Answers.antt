-- `is_lost` meets its contract.
use mathlib.Core.Path.{◌≡◌}
use mathlib.Core.List.{[], ◌∷◌}
use native.Mathlib.Omega.{arith}
use borrow.Author.Count.{below_more}
use lib.ListN.{length}
use denote.Laws.{Is}
use denote.Struct.Laws as LL
use Rattle.mending.specs.declared.few.Few.{Few}
use Rattle.stripe.specs.Shape.{most_rows}
use Rattle.mending.specs.contracts.few.Few as T
use Rattle.mending.proofs.few.Few.TheLaws as T'
use Rattle.mending.proofs.Among.{found, none}
use Rattle.mending.proofs.survivors.is_lost.Goals as goal

-- what owning a `Few` tells of the length of its array
room_at : (l : Few) → Is T.the_row l (LL.val T.the_type T'.the_laws l ∷ []) → length l.at ≡ most_rows
room_at l p = (LL.owed T.the_type T'.the_laws l _ p).0.1.0.1

pub returns-then-at-v : goal.returns-then-at-v
returns-then-at-v c =
    let a = c.args in
    found a.lost.at a.lost.count a.c c.loop-v.v c.loop-v-test.true
    (omega (arith, room_at a.lost c.well_formed.0, c.loop-v-test.true, c.requires)) c.if-at-v.true

pub loop-v-preserved : goal.loop-v-preserved
loop-v-preserved c = below_more _ _ c.loop-v.invariant c.if-at-v.false

pub returns : goal.returns
returns c =
    let a = c.args in
    none a.lost.at a.lost.count a.c (λ j w. c.loop-v.invariant j (omega arith))
    (omega (arith, room_at a.lost c.well_formed.0, c.requires))
