-- `fill_lost` meets its contract: the positions left behind those stored are all of them.
use Prim.Native.Nat.{ℕ, ◌+◌, ◌-◌}
use mathlib.Core.Path.{sym, ap, ◌∙◌}
use native.Mathlib.Omega.{arith}
use lib.ListN.{set}
use Rattle.field.specs.Bytes.{over}
use Rattle.record.specs.Reading.{positions_at}
use Rattle.record.proofs.Listing.{default_is, positions_small, list_turn, list_done}
use Rattle.record.proofs.Survivors.{all_left}
use Rattle.record.proofs.read.fill_lost.Goals as goal

pub loop-i-init : goal.loop-i-init
loop-i-init c =
    let a = c.args in
    let e = ap (λ (n : ℕ). positions_at a.s.now n a.first) (all_left a.m) in (
      λ j. rw e (c.requires.by_index j),
      ap (over a.lost.now 0) e,
    )

pub overflow_cast-lost : goal.overflow_cast-lost
overflow_cast-lost c =
    let a = c.args in
    let v = c.loop-i in
    let g = default_is c.read_number.result _ _ _ c.read_number.ensures c.unwrap_or_default-position.ensures in
    omega (arith, g.0, (positions_small a.s.now a.m v.i v.at c.loop-i-test.true v.invariant.0).0)

pub loop-i-preserved : goal.loop-i-preserved
loop-i-preserved c =
    let a = c.args in
    let v = c.loop-i in
    let g = default_is c.read_number.result _ _ _ c.read_number.ensures c.unwrap_or_default-position.ensures in
    let t = c.loop-i-test.true in
    let y = g.1 in (
      λ j. rw y ((positions_small a.s.now a.m v.i v.at t v.invariant.0).1 j),
      ap (λ (n : ℕ). over (set v.lost v.i c.unwrap_or_default-position.result.value) (v.i + 1) (positions_at a.s.now (a.m - (v.i + 1)) n)) y
          ∙ list_turn a.s.now v.lost a.m v.i v.at c.unwrap_or_default-position.result.value t
          (omega (arith, c.requires.m_in_bounds)) (g.0)
          ∙ v.invariant.1,
    )

pub returns : goal.returns
returns c =
    let a = c.args in
    let v = c.loop-i in
    sym (list_done a.s.now v.lost a.m v.i v.at c.loop-i-test.false) ∙ v.invariant.1
