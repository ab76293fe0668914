-- `sixteenfold` meets its contract, by a test of all bytes.
use Rattle.weights.proofs.Shifts.{sixteen_times}
use Rattle.weights.proofs.sixteenfold.Goals as goal

pub returns : goal.returns
returns c = sixteen_times c.args.x c.ranges.x.fits
