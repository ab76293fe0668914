-- `part_bytes` meets its contract: a plain stripe has no mark to count by.
use mathlib.Core.Path.{sym, ap}
use Prim.Native.Nat.{ℕ, ◌-◌, ◌*◌}
use native.Mathlib.Omega.{arith}
use Rattle.stripe.proofs.Allowed.{prepared_run_length}
use Rattle.plan.proofs.Bounds.{fits, part_small}
use Rattle.fold.proofs.Offsets.{mark_prepared}
use Rattle.fold.proofs.Rowed.{no_part}
use borrow.Author.Rules.{rules}
use Rattle.fold.proofs.stripes.part_bytes.Goals as goal

pub returns-then-t-eq0 : goal.returns-then-t-eq0
returns-then-t-eq0 c = sym (no_part c.args.s c.if-t-eq0.true)

pub overflow_sub-result : goal.overflow_sub-result
overflow_sub-result c = let p = mark_prepared _ c.requires (search rules) in omega (arith, p.gains)

pub overflow_mul-result : goal.overflow_mul-result
overflow_mul-result c = fits _ (omega (arith, part_small _ c.requires))

pub returns : goal.returns
returns c =
    let s = c.args.s in
    ap (λ (q : ℕ). (s.t - s.r) * q) (sym (prepared_run_length s (search rules)))
