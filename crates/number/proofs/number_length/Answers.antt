-- `number_length` meets its contract: what was counted and the groups left are all groups.
use mathlib.Core.Path.{ap}
use native.Mathlib.Omega.{arith}
use lib.ListN.{length}
use borrow.Author.Rules.{rules}
use Rattle.number.proofs.Written.{written_last, written_next, groups_most}
use Rattle.number.proofs.number_length.Goals as goal

pub overflow_add-n : goal.overflow_add-n
overflow_add-n c = omega (arith, groups_most 5 c.args.value)

pub loop-v-preserved : goal.loop-v-preserved
loop-v-preserved c = (search rules, omega (arith, ap length (written_next c.loop-v.v c.loop-v-test.true c.loop-v.invariant.0)))

pub returns : goal.returns
returns c = omega (arith, ap length (written_last c.loop-v.v c.loop-v-test.false))
