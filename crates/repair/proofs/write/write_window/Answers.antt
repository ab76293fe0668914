-- `write_window` meets its contract: the rows are as they are computed, and they are put into their columns.
use Rattle.repair.proofs.Computed.{window_long, window_put}
use Rattle.repair.proofs.write.write_window.Goals as goal

pub put_columns-requires : goal.put_columns-requires
put_columns-requires c =
    let a = c.args in (
      window_long a.w.now a.from.now a.to.now a.stripe.now _ a.l a.at a.n c.requires.0 c.requires.1.1 _
          c.apply.ensures,
      (c.requires.1.1.ends, (c.requires.1.0, c.requires.0.own)),
    )

pub returns : goal.returns
returns c =
    let a = c.args in
    window_put a.w.now a.from.now a.to.now a.stripe.now _ a.l a.at a.n c.requires.0 c.requires.1.1 _
    c.apply.ensures _ c.put_columns.ensures
