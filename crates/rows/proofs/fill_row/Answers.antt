-- `fill_row` meets its contract: row j is there at the places below b.
use Prim.Native.Nat.{◌+◌, ◌-◌}
use mathlib.Core.Path.{refl, ◌∙◌}
use native.Mathlib.Omega.{arith}
use native.Mathlib.Nat.{not-suc-le-zero}
use Rattle.rows.proofs.Filled.{part_all}
use Rattle.rows.proofs.fill_row.Goals as goal

pub loop-b-init : goal.loop-b-init
loop-b-init c = (omega arith, (refl, (c.requires.1.1.1.1.1, λ p less. absurd (not-suc-le-zero less))))

pub fill_part-requires : goal.fill_part-requires
fill_part-requires c =
    let h = c.requires in
    let at = c.loop-b in (
      h.0,
      (
        h.1.0,
        (
          omega arith,
          (
            omega (arith, c.loop-b-test.true, at.invariant.0),
            (h.1.1.1.0, (omega (arith, h.1.1.1.1.0, at.invariant.1.0), at.invariant.1.1)),
          ),
        ),
      ),
    )

pub loop-b-preserved : goal.loop-b-preserved
loop-b-preserved c =
    let at = c.loop-b in
    let e = c.fill_part.ensures in
    (omega (arith, c.loop-b-test.true, at.invariant.0), (e.0 ∙ at.invariant.1.0, e.1))

pub fill_part-requires-then-b-l : goal.fill_part-requires-then-b-l
fill_part-requires-then-b-l c =
    let h = c.requires in
    let at = c.loop-b in (
      h.0,
      (
        h.1.0,
        (
          omega (arith, h.1.1.0),
          (
            omega (arith, at.invariant.0),
            (h.1.1.1.0, (omega (arith, h.1.1.1.1.0, at.invariant.1.0), at.invariant.1.1)),
          ),
        ),
      ),
    )

pub returns-then-b-l : goal.returns-then-b-l
returns-then-b-l c =
    let at = c.loop-b in
    let part = c.fill_part-then-b-l in
    let l = c.args.l in (
      part.ensures.0 ∙ at.invariant.1.0,
      part_all _ _ _ _ (at.b + (l - at.b)) part.new.out (omega (arith, at.invariant.0)) part.ensures.1,
    )

pub returns-else-b-l : goal.returns-else-b-l
returns-else-b-l c =
    let at = c.loop-b in
    (at.invariant.1.0, part_all _ _ _ _ at.b at.out (omega (arith, c.if-b-l.false, at.invariant.0)) at.invariant.1.1)
