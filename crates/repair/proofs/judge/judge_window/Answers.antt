-- `judge_window` meets its contract: the columns are as they are computed exactly where all sums are zero.
use Rattle.repair.proofs.Computed.{window_long, window_judged}
use Rattle.repair.proofs.judge.judge_window.Goals as goal

pub add_columns-requires : goal.add_columns-requires
add_columns-requires c =
    let a = c.args in (
      window_long a.w.now a.from.now a.spares.now a.stripe.now _ a.l a.at a.n c.requires.0 c.requires.1 _
          c.apply.ensures,
      (c.requires.1.ends, c.requires.0.own),
    )

pub returns : goal.returns
returns c =
    let a = c.args in
    window_judged a.w.now a.from.now a.spares.now a.stripe.now _ a.l a.at a.n c.requires.0 c.requires.1 _
    c.apply.ensures _ c.add_columns.ensures _ c.all_zero.ensures
