-- `put_positions` meets its contract: storing the positions left over what is stored gives all of them.
use Prim.Native.Nat.{ℕ, ◌+◌}
use mathlib.Core.Path.{refl, sym, ap, ◌∙◌}
use native.Mathlib.Omega.{arith}
use lib.ListN.{length, drop}
use lib.Seq.{sets}
use Rattle.number.specs.Number.{written}
use Rattle.record.specs.Layout.{positions_written}
use Rattle.writing.proofs.Putting.{positions_bytes, positions_end, positions_turn}
use Rattle.writing.proofs.put_positions.Goals as goal

pub loop-e-init : goal.loop-e-init
loop-e-init c = (refl, (refl, refl))

pub put_number-at-requires : goal.put_number-at-requires
put_number-at-requires c =
    let a = c.args in
    let v = c.loop-e in
    let b = positions_bytes a.lost.now v.e-index c.loop-e-test.true in
    let w = ap written c.from.ensures in
    let n = ap length w in
    omega arith

pub loop-e-preserved : goal.loop-e-preserved
loop-e-preserved c =
    let a = c.args in
    let v = c.loop-e in
    let b = positions_bytes a.lost.now v.e-index c.loop-e-test.true in
    let w = ap written c.from.ensures in
    let n = ap length w in
    let k = c.put_number-at in (
      omega arith,
      (
        omega (arith, k.ensures.value),
        ap (λ (i : ℕ). sets k.new.out i (positions_written (drop (v.e-index + 1) a.lost.now))) (k.ensures.value ∙ ap (λ (i : ℕ). v.at + i) n)
            ∙ positions_turn v.out k.new.out a.lost.now v.at v.e-index c.loop-e-test.true
            (k.ensures.out_after ∙ ap (sets v.out v.at) w) ∙ v.invariant.1.1,
      ),
    )

pub returns : goal.returns
returns c = let a = c.args in
    let v = c.loop-e in
    let z = positions_end a.lost.now v.e-index c.loop-e-test.false in
    record { value = omega (arith, ap length z); out_after = sym (ap (sets v.out v.at) z) ∙ v.invariant.1.1 }
