-- `divide` meets its contract: the rows before j are over their weights.
use Prim.Native.Nat.{◌+◌, ◌*◌, ◌≤◌}
use mathlib.Core.Path.{◌∙◌, ap}
use native.Mathlib.Nat.{mul-le-mul_right, suc-mul}
use native.Mathlib.Omega.{arith}
use lib.ListN.{length}
use Rattle.field.specs.Field.{inverse_of}
use Rattle.field.specs.Bytes.{Bytes}
use Rattle.syndromes.proofs.Filling.{divided_0, divide_start, divide_turn, divide_done}
use Rattle.syndromes.proofs.divide.Goals as goal
use Rattle.syndromes.proofs.divide.Goals.{In-loop-j}

pub returns-then-x-eq0 : goal.returns-then-x-eq0
returns-then-x-eq0 c = divided_0 _ _ _ _ c.if-x-eq0.true (λ i. (c.slice_known-1.given i).fits)

pub loop-j-init : goal.loop-j-init
loop-j-init c =
    let known : Bytes c.args.out.now = λ i. (c.slice_known-1.given i).fits in
    (divide_start _ _ _ _ known, known)

-- row j ends within the rows
fits : (c : In-loop-j)
    → c.loop-j.j * c.args.s.l + c.args.s.l ≤ length c.loop-j.out
fits c =
    omega (
      arith,
      mul-le-mul_right c.args.s.l c.loop-j-test.true,
      suc-mul c.loop-j.j c.args.s.l,
      c.requires.0,
      c.loop-j.invariant.0.long,
    )

pub overflow_mul-a : goal.overflow_mul-a
overflow_mul-a c = omega (arith, fits c)

pub overflow_add-e : goal.overflow_add-e
overflow_add-e c = omega (arith, fits c)

pub overflow_mul-j : goal.overflow_mul-j
overflow_mul-j c =
    let less : c.loop-j.j ≤ c.args.s.r = omega (arith, c.loop-j-test.true) in
    omega (arith, mul-le-mul_right c.args.x less, c.requires.1)

pub slice_bounds-scale_all-start : goal.slice_bounds-scale_all-start
slice_bounds-scale_all-start c = omega (arith, fits (goal.at.slice_bounds-scale_all-start c).In-loop-j)

pub slice_bounds-scale_all-end : goal.slice_bounds-scale_all-end
slice_bounds-scale_all-end c = omega (arith, fits (goal.at.slice_bounds-scale_all-end c).In-loop-j)

pub loop-j-preserved : goal.loop-j-preserved
loop-j-preserved c =
    let at = c.loop-j in (
      divide_turn _ _ _ at.j _ _ _ _ at.invariant.0 at.invariant.1 (fits (goal.at.loop-j-preserved c).In-loop-j)
          (c.inverse-c.ensures ∙ ap inverse_of c.power.ensures)
          c.scale_all.ensures,
      λ i. (c.slice_known-in-loop-j-1.given i).fits,
    )

pub shape_of-out : goal.shape_of-out
shape_of-out c = c.loop-j.invariant.0.long

pub returns : goal.returns
returns c = divide_done _ _ _ c.loop-j.j _ _ c.loop-j-test.false c.loop-j.invariant.0
