-- `where_is` meets its contract.
use mathlib.Core.Path.{sym}
use native.Mathlib.Omega.{arith}
use Rattle.stripe.proofs.Allowed.{allowed}
use Rattle.checking.proofs.Where.{where_past, where_within}
use Rattle.checking.proofs.where_is.Goals as goal

pub overflow_mul-s : goal.overflow_mul-s
overflow_mul-s c = omega (arith, (allowed c.args.s c.requires).parity-length)

pub returns-then-s-n : goal.returns-then-s-n
returns-then-s-n c = sym (where_past _ _ c.if-s-n.true)

pub nonzero_div-result : goal.nonzero_div-result
nonzero_div-result c = (allowed c.args.s c.requires).length_some

pub nonzero_rem-result : goal.nonzero_rem-result
nonzero_rem-result c = (allowed c.args.s c.requires).length_some

pub returns : goal.returns
returns c = sym (where_within _ _ (omega (arith, c.if-s-n.false)))
