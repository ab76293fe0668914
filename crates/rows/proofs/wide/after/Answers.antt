-- `after` meets its contract: at most one round is taken off.
use Rattle.rows.proofs.Ring.{slot_near, slot_round}
use Rattle.rows.proofs.wide.after.Goals as goal

pub returns-then-s-n-lt14 : goal.returns-then-s-n-lt14
returns-then-s-n-lt14 c = slot_near _ _ c.if-s-n-lt14.true

pub returns-else-s-n-lt14 : goal.returns-else-s-n-lt14
returns-else-s-n-lt14 c = slot_round _ _ c.requires.0 c.requires.1 c.if-s-n-lt14.false
