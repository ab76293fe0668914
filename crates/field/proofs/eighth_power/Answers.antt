-- `eighth_power` meets its contract, by a test of each byte of the two constants.
use Rattle.field.proofs.Shifting.{first_eighths, other_eighths}
use Rattle.field.proofs.eighth_power.Goals as goal

pub returns-then-n-lt64 : goal.returns-then-n-lt64
returns-then-n-lt64 c = first_eighths c.args.n c.if-n-lt64.true

pub returns : goal.returns
returns c = other_eighths c.args.n c.if-n-lt64.false c.requires
