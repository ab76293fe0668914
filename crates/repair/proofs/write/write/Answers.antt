-- `write` meets its contract: at the places below `at` the columns are as they are computed.
use Prim.Native.Nat.{◌+◌}
use mathlib.Core.Path.{◌≡◌}
use native.Mathlib.Omega.{arith}
use borrow.Author.Rules.{rules}
use Rattle.repair.proofs.Computed.{put_more, put_all}
use Rattle.repair.proofs.write.write.Goals as goal

pub loop-at-preserved : goal.loop-at-preserved
loop-at-preserved c =
    let at = c.loop-at in
    let here = put_more _ _ _ _ at.at (at.at + c.min-n.result) _ at.stripe _ (omega arith) (omega arith) at.invariant.2 c.write_window.ensures in
    let whole : c.min-n.result ≡ c.places-step.result = omega arith in
    (omega arith, search rules, rw whole at here)

pub returns-else-rows-lt1-2 : goal.returns-else-rows-lt1-2
returns-else-rows-lt1-2 c =
    let at = c.loop-at in
    let here = put_more _ _ _ _ at.at (at.at + c.min-n.result) _ at.stripe _ (omega arith) (omega arith) at.invariant.2 c.write_window.ensures in
    put_all _ _ _ _ _ _ (omega arith) here
