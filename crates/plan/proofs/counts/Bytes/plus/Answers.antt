-- `Bytes::plus` meets its contract: the sum, or the cap.
use mathlib.Core.Path.{◌∙◌}
use Prim.Native.Nat.{◌+◌}
use Rattle.plan.proofs.Capped.{capped_least}
use Rattle.plan.proofs.counts.Bytes.plus.Goals as goal

pub returns : goal.returns
returns c = c.saturating_add.ensures ∙ capped_least (c.args.self.0 + c.args.o.0)
