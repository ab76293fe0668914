-- `check` meets its contract: mending with an empty list.
use mathlib.Core.Path.{refl}
use mathlib.Core.List.{[]}
use native.Mathlib.Omega.{arith}
use Rattle.mending.proofs.Pointed.{nothing_lost, repaired_restored}
use Rattle.mending.proofs.Smaller.{none_ready}
use Rattle.mending.proofs.check.Goals as goal

pub returns-then-s-gt-MOST_ROWS : goal.returns-then-s-gt-MOST_ROWS
returns-then-s-gt-MOST_ROWS c =
    repaired_restored c.args.s c.requires.0 c.if-s-gt-MOST_ROWS.true [] (nothing_lost _) (omega arith)
    c.args.stripe.now _ _ c.requires.1 c.repair.ensures

pub restore_in-requires : goal.restore_in-requires
restore_in-requires c =
    (none_ready _ _ c.requires.0 c.if-s-gt-MOST_ROWS.false refl, (c.requires.1, (refl, (c.if-n-le-SHORT.true, omega arith))))

pub restore_longer-requires : goal.restore_longer-requires
restore_longer-requires c =
    (none_ready _ _ c.requires.0 c.if-s-gt-MOST_ROWS.false refl, (c.requires.1, refl))
