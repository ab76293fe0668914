-- `step` meets its contract.
use Rattle.checking.proofs.Windows.{step_some, step_most}
use Rattle.checking.proofs.by_points.step.Goals as goal

pub returns : goal.returns
returns c = (step_some _ c.requires.0 c.requires.1, step_most _)
