-- `double` meets its contract, by a test of all bytes.
use Rattle.field.proofs.Shifting.{twice}
use Rattle.field.proofs.double.Goals as goal

pub returns : goal.returns
returns c = twice c.args.x c.ranges.x.fits
