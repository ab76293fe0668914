-- `eightfold` meets its contract, by a test of all bytes.
use Rattle.weights.proofs.Shifts.{eight_times}
use Rattle.weights.proofs.eightfold.Goals as goal

pub returns : goal.returns
returns c = eight_times c.args.x c.ranges.x.fits
