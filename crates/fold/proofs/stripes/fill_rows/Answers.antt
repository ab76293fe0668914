-- `fill_rows` meets its contract: the encoder forms the rows, and of a plain stripe there are none.
use mathlib.Core.Path.{sym, subst, ◌∙◌}
use Prim.Native.Nat.{ℕ, ◌*◌, ◌<◌, ◌≤◌, ◌^◌}
use native.Mathlib.Omega.{arith}
use lib.ListN.{length}
use lib.Seq.{length-take-le}
use Rattle.plan.proofs.Bounds.{fits}
use Rattle.fold.proofs.Offsets.{data_part_bytes}
use Rattle.fold.proofs.Rowed.{part_in, rows_by}
use Rattle.fold.proofs.stripes.fill_rows.Goals as goal

pub overflow_mul-end : goal.overflow_mul-end
overflow_mul-end c =
    let e = c.part_bytes-m.ensures in
    fits _ (subst (λ (x : ℕ). c.args.s.k * x < 2 ^ 64) (sym e) (omega (arith, data_part_bytes _ c.requires.0.shape)))

pub slice_bounds-encode_by_rows-end : goal.slice_bounds-encode_by_rows-end
slice_bounds-encode_by_rows-end c =
    let e = c.part_bytes-m.ensures in
    let w = subst (λ (x : ℕ). c.args.s.k * x ≤ length c.args.d.now) (sym e) (omega (
      arith,
      part_in _ _ c.requires.0 (λ o. c.if-m-eq0.false (e ∙ o)),
      c.requires.1.0,
    )) in
    sym (length-take-le _ c.args.d.now w)

pub returns : goal.returns
returns c =
    let e = c.part_bytes-m.ensures in
    rows_by _ _ c.requires.0 (λ o. c.if-m-eq0.false (e ∙ o)) _ _ e
    c.new.ensures _ _ _ c.requires.1.0 c.requires.1.1 c.encode_by_rows.ensures
