-- `polynomials` meets its contract: the first v rows and the last v are multiplied by what stands in p and in s before their turn.
use Prim.Native.Nat.{ℕ, suc, ◌+◌, ◌-◌, ◌<◌}
use mathlib.Core.Path.{◌≡◌, sym, subst}
use native.Mathlib.Omega.{arith}
use lib.ListN.{length, drop}
use Rattle.lagrange.proofs.Lanes.{Counts, counts_first, counts_next, counts_last, counts_back}
use Rattle.lagrange.proofs.Lanes.{both_none, both_start, both_first, both_last, both_done}
use Rattle.lagrange.proofs.polynomials.Goals as goal

pub returns-then-n-eq0 : goal.returns-then-n-eq0
returns-then-n-eq0 c =
    both_none c.args.of.now.points.now c.args.of.now.constants.now c.args.y.now c.told-rows c.if-n-eq0.true

pub loop-v-init : goal.loop-v-init
loop-v-init c =
    let a = c.args in
    let bs = a.of.now.points.now in
    let ys = a.y.now in
    let more : 0 < length bs = omega (arith, c.if-n-eq0.false) in (
      counts_first bs ys c.apart-p.result c.apart-p.ensures.1 more,
      counts_last bs ys c.apart-s.result (length bs - 1) c.apart-s.ensures.1 (omega arith),
      both_start bs a.of.now.constants.now ys a.of.now.made c.spread.ensures,
    )

pub loop-v-preserved : goal.loop-v-preserved
loop-v-preserved c =
    let second = c.further-s in
    let first = c.further-p in
    let at = c.loop-v in
    let a = c.args in
    let bs = a.of.now.points.now in
    let cs = a.of.now.constants.now in
    let ys = a.y.now in
    let v = at.v in
    let u = length bs - 1 - v in
    let less = c.loop-v-test.true in
    let from : length bs - v ≡ suc u = omega arith in
    let place : length bs - (v + 1) ≡ u = omega arith in
    let after = subst (λ (n : ℕ). Counts at.s (drop n bs) ys) from at.invariant.1 in
    let back = counts_back bs ys at.s second.result u (omega arith) after second.ensures.result_len.1 in
    let half = both_first bs cs ys v v at.p at.invariant.0 less first.ensures.row_times at.invariant.2 in (
      counts_next bs ys at.p first.result v less at.invariant.0 first.ensures.result_len.1,
      subst (λ (n : ℕ). Counts second.result (drop n bs) ys) (sym place) back,
      both_last bs cs ys (v + 1) v u at.s after (omega arith) second.ensures.row_times half,
    )

pub returns : goal.returns
returns c =
    let a = c.args in
    both_done a.of.now.points.now a.of.now.constants.now a.y.now c.loop-v.v c.loop-v-test.false a.of.now.made c.loop-v.invariant.2
