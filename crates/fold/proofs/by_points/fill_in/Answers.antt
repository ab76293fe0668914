-- `fill_in` meets its contract: the constants have room.
use native.Mathlib.Omega.{arith}
use Rattle.fold.proofs.ByPoints.{columns_most}
use Rattle.fold.proofs.by_points.fill_in.Goals as goal

pub overflow_mul-m : goal.overflow_mul-m
overflow_mul-m g c = omega (arith, columns_most _ _ _ _ c.requires.lent c.read_columns.ensures)

pub whole_as_front-fill_constants : goal.whole_as_front-fill_constants
whole_as_front-fill_constants g c = (rw c.read_columns.ensures c.requires.room.0, omega (arith, c.requires.room.1))

pub shared_whole_as_front-fill_columns : goal.shared_whole_as_front-fill_columns
shared_whole_as_front-fill_columns g c = (rw c.read_columns.ensures c.requires.room.0, omega (arith, c.requires.room.1))
