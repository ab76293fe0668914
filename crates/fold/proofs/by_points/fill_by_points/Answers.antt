-- `fill_by_points` meets its contract: the constants have room in either buffer.
use mathlib.Core.Path.{refl}
use native.Mathlib.Omega.{arith}
use borrow.Author.Rules.{rules}
use Rattle.fold.proofs.ByPoints.{columns_most, constants_most}
use Rattle.fold.proofs.by_points.fill_by_points.Goals as goal

pub overflow_mul-m : goal.overflow_mul-m
overflow_mul-m c = omega (arith, columns_most _ _ _ _ c.requires c.read_columns.ensures)

pub overflow_mul-size : goal.overflow_mul-size
overflow_mul-size c = omega (arith, constants_most _ _ _ _ c.requires c.read_columns.ensures)

pub fill_in-requires-else-size-le256 : goal.fill_in-requires-else-size-le256
fill_in-requires-else-size-le256 c = record { room = (constants_most _ _ _ _ c.requires refl, search rules); lent = c.requires }
