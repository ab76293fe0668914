-- `take_share` meets its contract: each part that is stored is one step.
use native.Mathlib.Omega.{arith}
use Rattle.plan.proofs.Bounds.{fits}
use Rattle.fold.proofs.Stepped.{read_in, row_in, both_in, read_done, row_done, both_done}
use Rattle.fold.proofs.shares.take_share.Goals as goal

pub take_bytes-requires : goal.take_bytes-requires
take_bytes-requires c =
    read_in _ c.args.d.now c.args.rows.now c.args.acc.now c.requires _ c.in-Read.is

pub take_bytes-requires-in-Row : goal.take_bytes-requires-in-Row
take_bytes-requires-in-Row c =
    row_in _ c.args.d.now c.args.rows.now c.args.acc.now c.requires _ c.in-Row.is

pub overflow_add-to : goal.overflow_add-to
overflow_add-to c =
    fits _ (omega (arith, (both_in _ c.args.d.now c.args.rows.now c.args.acc.now c.requires _ _ c.in-Both.is).1))

pub take_bytes-requires-in-Both : goal.take_bytes-requires-in-Both
take_bytes-requires-in-Both c =
    (both_in _ c.args.d.now c.args.rows.now c.args.acc.now c.requires _ _ c.in-Both.is).0

pub slice_bounds-add-end : goal.slice_bounds-add-end
slice_bounds-add-end c =
    omega (
      arith,
      (both_in _ c.args.d.now c.args.rows.now c.args.acc.now c.requires _ _
          c.in-Both.is).1,
    )

pub returns-in-Read : goal.returns-in-Read
returns-in-Read c =
    read_done _ _ _ _ c.requires _ _ _ _ c.in-Read.is c.take_bytes.ensures

pub returns-in-Row : goal.returns-in-Row
returns-in-Row c =
    row_done _ _ _ _ c.requires _ _ _ _ c.in-Row.is c.take_bytes-in-Row.ensures

pub returns-in-Both : goal.returns-in-Both
returns-in-Both c =
    both_done _ _ _ _ c.requires _ _ _ _ _ _ c.in-Both.is c.take_bytes-in-Both.ensures c.add.ensures
