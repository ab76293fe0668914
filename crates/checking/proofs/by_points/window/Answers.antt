-- `window` meets its contract: what is made is the window of the parity by definition.
use mathlib.Core.Path.{◌≡◌, ◌∙◌}
use lib.ListN.{length}
use Rattle.checking.proofs.Windows.{lent_long, lent_most, window_made}
use borrow.Author.Rules.{rules}
use Rattle.checking.proofs.by_points.window.Goals as goal

pub all_rows-requires : goal.all_rows-requires
all_rows-requires c =
    let a = c.args.lent.now in
    let zs = c.apply.new.out in
    let same : length zs ≡ length c.args.made.now = search rules in
    (lent_long a.shape _ _ a.allowed, (same ∙ c.requires.1.1.1.1.1, (c.requires.1.1.1.1.0, lent_most a.shape _ _ a.allowed)))

pub returns : goal.returns
returns c =
    let a = c.args.lent.now in
    let h = c.requires.1.1.1 in
    let made = window_made a.shape a.«data».now a.parity.now a.allowed c.requires.0 c.args.p c.args.n h.0 h.1.0 in
    λ k. c.all_rows.ensures _ (made _ _ _ _ c.requires.1.0 c.requires.1.1.0 h.1.1 c.apply.ensures) k
