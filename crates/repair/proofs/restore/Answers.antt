-- `restore` meets its contract: all spares are judged before a column is written.
use Prim.Native.Nat.{◌*◌, ◌≤◌}
use mathlib.Core.Path.{refl}
use mathlib.Core.Logic.{inl, inr}
use native.Mathlib.Omega.{arith}
use lib.ListN.{length}
use borrow.Author.Rules.{rules}
use Rattle.repair.proofs.Restored.{first_inside, judge_lent, write_lent, part_holds, whole_holds, part_put}
use Rattle.repair.proofs.restore.Goals as goal
use Rattle.repair.proofs.restore.Goals.{Start}

-- the rows of the lost columns are among all rows
inside : (s : Start) → length s.args.to.now * s.args.k ≤ length s.args.w.now
inside s =
    first_inside s.args.w.now s.args.kept.now s.args.to.now s.args.stripe.now s.args.k s.args.l s.requires.0 s.requires.1

pub overflow_mul-first : goal.overflow_mul-first
overflow_mul-first c = omega (arith, inside (goal.at.overflow_mul-first c).Start)

pub slice_bounds-judge-count : goal.slice_bounds-judge-count
slice_bounds-judge-count c = inside (goal.at.slice_bounds-judge-count c).Start

pub slice_bounds-judge-start : goal.slice_bounds-judge-start
slice_bounds-judge-start c = omega (arith, inside (goal.at.slice_bounds-judge-start c).Start)

pub judge-requires : goal.judge-requires
judge-requires c =
    (judge_lent c.args.w.now c.args.kept.now c.args.to.now c.args.stripe.now c.args.k c.args.l c.requires.0 c.requires.1, refl)

pub returns-then-not-judge : goal.returns-then-not-judge
returns-then-not-judge c =
    let no = c.judge.ensures.not_so (c.if-not-judge.true) in
    inr (
      refl,
      (
        refl,
        λ g.
            no (whole_holds c.args.w.now c.args.kept.now c.args.to.now c.args.stripe.now c.args.k c.args.l c.requires.0 c.requires.1
            g),
      ),
    )

pub slice_bounds-write-end : goal.slice_bounds-write-end
slice_bounds-write-end c = omega (arith, inside (goal.at.slice_bounds-write-end c).Start)

pub write-requires : goal.write-requires
write-requires c = (
  write_lent c.args.w.now c.args.kept.now c.args.to.now c.args.stripe.now c.args.k c.args.l c.requires.0 c.requires.1,
  (c.requires.1.distinct, search rules),
)

pub returns : goal.returns
returns c =
    let yes = c.judge.ensures.so (c.if-not-judge.false) in
    inl (
      refl,
      (
        part_holds c.args.w.now c.args.kept.now c.args.to.now c.args.stripe.now c.args.k c.args.l c.requires.0 c.requires.1 yes,
        part_put c.args.w.now c.args.kept.now c.args.to.now c.args.stripe.now c.args.k c.args.l c.requires.0 c.requires.1 _
            c.write.ensures,
      ),
    )
