-- `system_of` meets its contract.
use mathlib.Core.Path.{refl}
use native.Mathlib.Omega.{arith}
use Rattle.stripe.proofs.Allowed.{allowed, rows_most}
use Rattle.mending.proofs.Posed.{posed}
use Rattle.mending.proofs.system.system_of.Goals as goal

pub overflow_add-k : goal.overflow_add-k
overflow_add-k c = let f = allowed c.args.s c.requires.shape in omega (arith, f.data_most, f.parity_most)

pub data_lost-count-requires : goal.data_lost-count-requires
data_lost-count-requires c =
    let f = allowed c.args.s c.requires.shape in
    (omega (arith, rows_most c.args.s f c.requires.rows, c.requires.few), c.requires.ascend)

pub first_row-first-requires : goal.first_row-first-requires
first_row-first-requires c =
    let f = allowed c.args.s c.requires.shape in
    (omega (arith, rows_most c.args.s f c.requires.rows, c.requires.few), f.data_most)

pub row_step-step-requires : goal.row_step-step-requires
row_step-step-requires c =
    let f = allowed c.args.s c.requires.shape in
    (omega (arith, rows_most c.args.s f c.requires.rows, c.requires.few), f.data_most)

pub returns : goal.returns
returns c =
    let a = c.args in
    let e = c.data_lost-count.ensures in (
      refl,
      posed a.s a.lost _ _ _ _ c.requires e.0 e.1 c.pivot_of-pivot.ensures
          c.first_row-first.ensures c.row_step-step.ensures,
    )
