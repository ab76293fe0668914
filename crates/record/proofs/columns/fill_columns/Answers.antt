-- `fill_columns` meets its contract: restoring the columns left behind what is restored gives the whole stripe.
use Prim.Native.Nat.{ℕ, ◌+◌, ◌*◌, ◌≤◌}
use mathlib.Core.Path.{sym, ◌∙◌, subst}
use mathlib.Core.Logic.{inl, inr}
use native.Mathlib.Nat.{zero-mul}
use native.Mathlib.Omega.{arith}
use lib.ListN.{length, take, drop}
use Rattle.record.proofs.Survivors.{copied, Passed, restore_start, restore_turn, restore_done, column_within, next_column, walk_start, walk_survivor, walk_turn}
use Rattle.record.proofs.columns.fill_columns.Goals as goal
use Rattle.record.proofs.columns.fill_columns.Goals.{Then-not-is_lost, then-not-is_lost, else-not-is_lost}

pub loop-c-init : goal.loop-c-init
loop-c-init c =
    let a = c.args in (
      sym (zero-mul a.l),
      (
        walk_start _ _ _ _ _ (omega (arith, c.requires.l_in_bounds_2)),
        restore_start a.l a.n a.lost.now a.from.now a.stripe.now,
      ),
    )

-- a column that is taken has its bytes
survives : (c : Then-not-is_lost)
    → let v = c.loop-c in
    let a = c.args in
    v.at + a.l ≤ length a.from.now
survives c =
    let a = c.args in
    let v = c.loop-c in
    walk_survivor v.invariant.1.0 c.loop-c-test.true (sym c.is_lost.ensures ∙ c.if-not-is_lost.true)

pub overflow_add-next : goal.overflow_add-next
overflow_add-next c =
    omega (arith, c.loop-c.invariant.0, column_within c.args.n c.loop-c.c c.args.l c.loop-c-test.true, c.requires.l_in_bounds)

pub overflow_add-end : goal.overflow_add-end
overflow_add-end c = omega (arith, survives c)

pub slice_bounds-copy-end : goal.slice_bounds-copy-end
slice_bounds-copy-end c =
    omega (arith, c.loop-c.invariant.0, column_within c.args.n c.loop-c.c c.args.l c.loop-c-test.true, c.requires.l_in_bounds)

pub slice_bounds-copy-end-then-not-is_lost : goal.slice_bounds-copy-end-then-not-is_lost
slice_bounds-copy-end-then-not-is_lost c = survives (goal.at.slice_bounds-copy-end-then-not-is_lost c).Then-not-is_lost

pub loop-c-preserved : goal.loop-c-preserved
loop-c-preserved c =
    let a = c.args in
    let v = c.loop-c in
    let t = c.loop-c-test.true in
    let taken = take a.l (drop v.at a.from.now) in
    let fits : v.to + a.l ≤ length v.stripe = omega (arith, v.invariant.0, column_within a.n v.c a.l t) in
    -- the two ways of a column meet
    let w : Passed a.l v.c a.lost.now v.to taken v.at c.if-not-is_lost.at v.stripe c.if-not-is_lost.stripe =
    elim c.if-not-is_lost.branch [
      | then-not-is_lost w ↦
          let k = sym w.if-not-is_lost.ensures in
          let room = walk_survivor v.invariant.1.0 t k in
          let is = copied v.stripe _ _ v.to v.at a.l fits room w.copy.ensures in
          inr (k, (w.at-is, w.stripe-is ∙ is))
      | else-not-is_lost w ↦ inl (sym w.if-not-is_lost.ensures, (w.at-is, w.stripe-is))
    ] in
    let w' = subst (λ (to : ℕ). Passed a.l v.c a.lost.now to taken v.at c.if-not-is_lost.at v.stripe c.if-not-is_lost.stripe) v.invariant.0 w in
    let law = restore_turn _ a.n v.c v.at _ _ a.from.now v.stripe _ t (omega arith) (walk_survivor v.invariant.1.0 t) w' in
    (omega (arith, v.invariant.0, next_column v.c a.l), (walk_turn v.invariant.1.0 t (v.c * a.l) _ taken _ _ w', law ∙ v.invariant.1.1))

pub returns : goal.returns
returns c =
    let a = c.args in
    let v = c.loop-c in
    sym (restore_done a.l a.n v.c (v.c * a.l) v.at a.lost.now a.from.now v.stripe c.loop-c-test.false) ∙ v.invariant.1.1
