-- `put_number` meets its contract: storing the groups left over what is stored gives the whole number.
use mathlib.Core.Path.{ap, sym, ◌∙◌}
use native.Mathlib.Omega.{arith}
use lib.ListN.{length, length-set}
use lib.Seq.{sets}
use borrow.Author.Rules.{rules}
use Rattle.number.proofs.Written.{written_last, written_next, stored}
use Rattle.number.proofs.put_number.Goals as goal

pub bounds-out-i : goal.bounds-out-i
bounds-out-i c = omega (arith, ap length (written_next c.loop-v.v c.loop-v-test.true c.loop-v.invariant.0))

pub loop-v-preserved : goal.loop-v-preserved
loop-v-preserved c =
    let l = c.loop-v in (
      search rules,
      (
        simp length-set (omega arith),
        (
          simp length-set (omega (arith, ap length (written_next c.loop-v.v c.loop-v-test.true c.loop-v.invariant.0))),
          stored l.out l.i l.v c.loop-v-test.true l.invariant.0 ∙ l.invariant.1.1.1,
        ),
      ),
    )

pub overflow_cast-out-2 : goal.overflow_cast-out-2
overflow_cast-out-2 c = omega arith

pub bounds-out-i-2 : goal.bounds-out-i-2
bounds-out-i-2 c = omega (arith, ap length (written_last c.loop-v.v c.loop-v-test.false))

pub shape_of-out : goal.shape_of-out
shape_of-out c = simp length-set (omega arith)

pub returns : goal.returns
returns c =
    let l = c.loop-v in
    ap (sets l.out l.i) (sym (written_last l.v c.loop-v-test.false)) ∙ l.invariant.1.1.1
