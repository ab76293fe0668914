-- `carried` meets its contract, by a test of the sixteen numbers.
use Rattle.steps.proofs.Steps.{carry_lt, carry_times}
use Rattle.steps.proofs.carried.Goals as goal

pub returns : goal.returns
returns c = (carry_lt _ c.requires, carry_times _ c.requires)
