-- `put_columns` meets its contract: storing the surviving columns left over what is stored gives all of them.
use Prim.Native.Nat.{◌+◌, ◌*◌, ◌≤◌}
use mathlib.Core.Path.{sym, ◌∙◌}
use mathlib.Core.Logic.{inl, inr}
use native.Mathlib.Omega.{arith}
use lib.ListN.{length, take, drop}
use Rattle.record.proofs.Survivors.{copied, Passed, column_within, walk_start, walk_survivor, walk_turn}
use Rattle.writing.proofs.Surviving.{survive_start, survive_turn, survive_done}
use Rattle.writing.proofs.columns.put_columns.Goals as goal
use Rattle.writing.proofs.columns.put_columns.Goals.{Then-not-is_lost, then-not-is_lost, else-not-is_lost}

pub loop-c-init : goal.loop-c-init
loop-c-init c =
    let a = c.args in (
      walk_start _ _ _ _ _ c.requires.l_in_bounds_2,
      survive_start a.l a.n a.first a.lost.now a.stripe.now a.out.now,
    )

pub overflow_mul-from : goal.overflow_mul-from
overflow_mul-from c = omega (arith, column_within c.args.n c.loop-c.c c.args.l c.loop-c-test.true, c.requires.l_in_bounds)

-- a column that is taken has its room
survives : (c : Then-not-is_lost)
    → let v = c.loop-c in
    let a = c.args in
    v.at + a.l ≤ length v.out
survives c =
    let a = c.args in
    let v = c.loop-c in
    omega (arith, walk_survivor v.invariant.0 c.loop-c-test.true (sym c.is_lost.ensures ∙ c.if-not-is_lost.true), v.auto.out)

pub overflow_add-end : goal.overflow_add-end
overflow_add-end c = omega (arith, survives c)

pub slice_bounds-copy-end : goal.slice_bounds-copy-end
slice_bounds-copy-end c = survives c

pub loop-c-preserved : goal.loop-c-preserved
loop-c-preserved c =
    let a = c.args in
    let v = c.loop-c in
    let t = c.loop-c-test.true in
    -- the two ways of a column meet
    let w : Passed a.l v.c a.lost.now v.at (take a.l (drop (v.c * a.l) a.stripe.now)) v.at c.if-not-is_lost.at v.out c.if-not-is_lost.out =
    elim c.if-not-is_lost.branch [
      | then-not-is_lost w ↦
          let k = sym w.if-not-is_lost.ensures in
          let room = walk_survivor v.invariant.0 t k in
          let fits = column_within a.n v.c a.l t in
          let is = copied v.out _ _ v.at (v.c * a.l) a.l (omega (arith, v.auto.out)) (omega arith) w.copy.ensures in
          inr (k, (w.at-is, w.out-is ∙ is))
      | else-not-is_lost w ↦ inl (sym w.if-not-is_lost.ensures, (w.at-is, w.out-is))
    ] in
    let taken = take a.l (drop (v.c * a.l) a.stripe.now) in
    let fits = column_within a.n v.c a.l t in
    let law = survive_turn _ a.n v.c v.at _ a.lost.now _ v.out _ t (omega arith) w in
    (walk_turn v.invariant.0 t v.at _ taken _ _ w, law ∙ v.invariant.1)

pub returns : goal.returns
returns c =
    let a = c.args in
    let v = c.loop-c in
    sym (survive_done _ a.n v.c (v.c * a.l) v.at _ _ v.out c.loop-c-test.false) ∙ v.invariant.1
