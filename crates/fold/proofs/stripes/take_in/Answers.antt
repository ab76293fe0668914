-- `take_in` meets its contract: the rows have room.
use native.Mathlib.Omega.{arith}
use Rattle.fold.proofs.stripes.take_in.Goals as goal

pub whole_as_front-take_all : goal.whole_as_front-take_all
whole_as_front-take_all g c = (rw c.part_bytes.ensures c.requires.room.0, omega (arith, c.requires.room.1))
