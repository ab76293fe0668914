-- `fill_weights` meets its contract: the first i weights are there.
use Prim.Native.Nat.{◌*◌, ◌<◌, ◌≤◌}
use mathlib.Core.Path.{◌∙◌}
use native.Mathlib.Nat.{mul-le-mul}
use native.Mathlib.Omega.{arith}
use lib.ListN.{length}
use borrow.Author.Rules.{rules}
use Rattle.std.proofs.Common.{◌≢◌, get_or-set_other, get_or-set_same, below_more}
use Rattle.field.proofs.Mul.{gpow-mod}
use Rattle.constants.proofs.Points.{tabulated}
use Rattle.fold.proofs.plain.fill_weights.Goals as goal

pub overflow_mul-i : goal.overflow_mul-i
overflow_mul-i c =
    let most : c.loop-i.i ≤ 255 = omega (arith, c.requires.0) in
    omega (arith, mul-le-mul most c.requires.1)

pub loop-i-preserved : goal.loop-i-preserved
loop-i-preserved c =
    let at = c.loop-i in
    let room : at.i < length at.w = omega arith in (
      search rules,
      below_more _ _ (λ q h. let ne : q ≢ at.i = omega arith in rw get_or-set_other (at.invariant.1 q h))
          (rw get_or-set_same (c.power-x.ensures ∙ gpow-mod (at.i * c.args.e))),
    )

pub returns : goal.returns
returns c = tabulated _ _ _ c.loop-i.invariant.0 (λ q h. c.loop-i.invariant.1 q (omega arith))
