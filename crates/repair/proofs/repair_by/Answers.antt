-- `repair_by` meets its contract: the weights are those of the computed columns over the sources, and what they restore is a codeword.
use Prim.Native.Nat.{◌+◌}
use mathlib.Core.Path.{◌≡◌, refl}
use native.Mathlib.Omega.{arith}
use lib.ListN.{length}
use Rattle.field.specs.Bytes.{Bytes}
use Rattle.equations.specs.Chosen.{survivors, sources, computed}
use Rattle.equations.proofs.Chosen.{computed-length}
use Rattle.constants.specs.Constants.{mending_of}
use Rattle.repair.proofs.Refused.{Lawful, lawful}
use Rattle.repair.proofs.Restored.{survive_lent, survived, fill_lent, chosen, weighted, kept_is, lost_is, lent, outcome, all_long, front_within}
use Rattle.repair.proofs.repair_by.Goals as goal
use Rattle.repair.proofs.repair_by.Goals.{After-fill_computed, After-mending, After-survive, Start}

known : (c : Start) → Lawful c.args.k c.args.r c.args.l c.args.lost.now (length c.args.stripe.now)
known c = lawful _ _ _ _ _ c.requires.0

found : (c : After-survive) → let a = c.args in
    c.survive.new.out ≡ survivors 0 (a.k + a.r) a.lost.now
found c =
    let w = lawful _ _ _ _ _ c.requires.0 in
    survived _ _ _ _ _ w _ (omega (arith, w.numbers.points_most)) c.survive.ensures

made : (c : After-fill_computed) → let a = c.args in
    c.fill_computed.new.out ≡ computed a.k a.r a.lost.now
made c =
    let w = lawful _ _ _ _ _ c.requires.0 in
    let survivors_here = survived _ _ _ _ _ w _ (omega (arith, w.numbers.points_most)) c.survive.ensures in
    chosen _ _ _ _ _ w _ survivors_here c.fill_computed.ensures

weights : (c : After-mending) →
    let a = c.args in
    c.mending.new.out ≡ mending_of a.k a.r (computed a.k a.r a.lost.now) (sources a.k a.r a.lost.now)
weights c =
    let w = lawful _ _ _ _ _ c.requires.0 in
    let survivors_here = survived _ _ _ _ _ w _ (omega (arith, w.numbers.points_most)) c.survive.ensures in
    weighted _ _ _ _ _ w _ _ _ survivors_here (chosen _ _ _ _ _ w _ survivors_here c.fill_computed.ensures) c.requires.1 c.mending.ensures

pub overflow_add-m : goal.overflow_add-m
overflow_add-m c = let w = known (goal.at.overflow_add-m c).Start in omega (arith, w.numbers.points_most)

pub overflow_sub-m : goal.overflow_sub-m
overflow_sub-m c = let w = known (goal.at.overflow_sub-m c).Start in omega (arith, w.few)

pub slice_bounds-kept-end : goal.slice_bounds-kept-end
slice_bounds-kept-end c = let w = known (goal.at.slice_bounds-kept-end c).Start in omega (arith, w.numbers.points_most)

pub survive-requires : goal.survive-requires
survive-requires c =
    let w = known (goal.at.survive-requires c).Start in
    survive_lent _ _ _ _ _ w _ (omega (arith, w.numbers.points_most))

pub slice_bounds-fill_computed-count : goal.slice_bounds-fill_computed-count
slice_bounds-fill_computed-count c = let w = known (goal.at.slice_bounds-fill_computed-count c).Start in omega (arith, w.few)

pub slice_bounds-fill_computed-start : goal.slice_bounds-fill_computed-start
slice_bounds-fill_computed-start c = let w = known (goal.at.slice_bounds-fill_computed-start c).Start in omega (arith, w.few)

pub slice_bounds-fill_computed-end : goal.slice_bounds-fill_computed-end
slice_bounds-fill_computed-end c =
    let w = known (goal.at.slice_bounds-fill_computed-end c).Start in
    front_within _ _ _ _ (all_long _ _ _ _ _ w) (found (goal.at.slice_bounds-fill_computed-end c).After-survive) (omega arith)

pub slice_bounds-to-end : goal.slice_bounds-to-end
slice_bounds-to-end c = let w = known (goal.at.slice_bounds-to-end c).Start in omega (arith, w.numbers.parity_most)

pub fill_computed-requires : goal.fill_computed-requires
fill_computed-requires c =
    let w = known (goal.at.fill_computed-requires c).Start in
    fill_lent _ _ _ _ _ w _ _ (omega (arith, w.numbers.parity_most)) (found (goal.at.fill_computed-requires c).After-survive)

pub slice_bounds-mending-end : goal.slice_bounds-mending-end
slice_bounds-mending-end c =
    let w = known (goal.at.slice_bounds-mending-end c).Start in
    front_within _ _ _ _ (computed-length _ _ _ w.ascend w.few) (made (goal.at.slice_bounds-mending-end c).After-fill_computed) (omega arith)

pub slice_bounds-mending-end-2 : goal.slice_bounds-mending-end-2
slice_bounds-mending-end-2 c =
    let w = known (goal.at.slice_bounds-mending-end-2 c).Start in
    front_within _ _ _ _ (all_long _ _ _ _ _ w) (found (goal.at.slice_bounds-mending-end-2 c).After-survive) (omega (arith, w.few))

pub slice_bounds-restore-end : goal.slice_bounds-restore-end
slice_bounds-restore-end c =
    front_within _ _ _ _ (all_long _ _ _ _ _ (known (goal.at.slice_bounds-restore-end c).Start))
    (found (goal.at.slice_bounds-restore-end c).After-survive) (omega arith)

pub slice_bounds-restore-end-2 : goal.slice_bounds-restore-end-2
slice_bounds-restore-end-2 c =
    let w = known (goal.at.slice_bounds-restore-end-2 c).Start in
    front_within _ _ _ _ (computed-length _ _ _ w.ascend w.few) (made (goal.at.slice_bounds-restore-end-2 c).After-fill_computed) w.few

pub restore-requires : goal.restore-requires
restore-requires c =
    let w = known (goal.at.restore-requires c).Start in
    lent _ _ _ _ _ w _ _ _ (weights (goal.at.restore-requires c).After-mending)
    (kept_is _ _ _ _ _ w _ (found (goal.at.restore-requires c).After-survive))
    (lost_is _ _ _ _ _ w _ (made (goal.at.restore-requires c).After-fill_computed))

pub returns : goal.returns
returns c =
    let w = known (goal.at.returns c).Start in
    let bytes : Bytes c.restore.new.stripe = λ i. (c.slice_known-4-1.given i).fits in
    record {
      refused = λ n. absurd (n c.requires.0);
      judged = λ z.
          outcome _ _ _ _ _ w _ _ _ (weights (goal.at.returns c).After-mending) (kept_is _ _ _ _ _ w _ (found (goal.at.returns c).After-survive))
          (lost_is _ _ _ _ _ w _ (made (goal.at.returns c).After-fill_computed))
          _ refl _ _ bytes c.restore.ensures;
    }
