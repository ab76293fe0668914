-- `data_lost` meets its contract.
use mathlib.Core.Path.{◌≡◌}
use mathlib.Core.List.{[], ◌∷◌}
use native.Mathlib.Omega.{arith}
use borrow.Author.Count.{below_more}
use lib.ListN.{length}
use denote.Laws.{Is}
use denote.Struct.Laws as LL
use Rattle.mending.specs.declared.few.Few.{Few}
use Rattle.stripe.specs.Shape.{most_rows}
use Rattle.mending.specs.contracts.few.Few as T
use Rattle.mending.proofs.few.Few.TheLaws as T'
use Rattle.mending.proofs.Among.{data_first}
use Rattle.mending.proofs.survivors.data_lost.Goals as goal

-- what owning a `Few` tells of the length of its array
room_at : (l : Few) → Is T.the_row l (LL.val T.the_type T'.the_laws l ∷ []) → length l.at ≡ most_rows
room_at l p = (LL.owed T.the_type T'.the_laws l _ p).0.1.0.1

pub returns-then-k-at : goal.returns-then-k-at
returns-then-k-at c =
    let loop = c.loop-v in
    let a = c.args in (
      omega arith,
      data_first a.k 0 a.n a.lost.at a.lost.count loop.v c.requires.1 (omega (arith, room_at a.lost c.well_formed.0, c.requires.0))
          (omega arith)
          loop.invariant (λ h. c.if-k-at.true),
    )

pub loop-v-preserved : goal.loop-v-preserved
loop-v-preserved c = below_more _ _ c.loop-v.invariant c.if-k-at.false

pub returns : goal.returns
returns c =
    let a = c.args in (
      omega arith,
      data_first a.k 0 a.n a.lost.at a.lost.count a.lost.count c.requires.1
          (omega (arith, room_at a.lost c.well_formed.0, c.requires.0)) (omega arith)
          (λ u h. c.loop-v.invariant u (omega arith)) (λ h. absurd (omega arith)),
    )
