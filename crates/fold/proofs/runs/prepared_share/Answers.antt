-- `prepared_share` meets its contract: the run and the row decide, and all offsets are small.
use mathlib.Core.Path.{◌≡◌}
use Prim.Native.Nat.{ℕ, ◌-◌, ◌<◌}
use native.Mathlib.Omega.{arith}
use borrow.Author.Tests.{lt-ltb, le-ltb, ne_eqb}
use Rattle.stripe.proofs.Allowed.{prepared_run_length}
use Rattle.fold.specs.Shares.{share_of}
use Rattle.plan.proofs.Bounds.{fits, part_small, new_product}
use Rattle.fold.proofs.Offsets.{mark_prepared, few_runs, few_parts, data_parts}
use Rattle.fold.proofs.runs.prepared_share.Goals as goal

marked_some : {t : ℕ} → 0 < t → t ≡ 0 → ⊥
marked_some h e = omega arith

pub overflow_sub-m : goal.overflow_sub-m
overflow_sub-m c = let p = mark_prepared _ c.requires.0 c.requires.1.0 in omega (arith, p.gains)

pub overflow_mul-m : goal.overflow_mul-m
overflow_mul-m c = fits _ (omega (arith, part_small _ c.requires.0))

pub overflow_mul-parity : goal.overflow_mul-parity
overflow_mul-parity c = fits _ (omega (arith, data_parts _ c.requires.0))

pub overflow_mul-result : goal.overflow_mul-result
overflow_mul-result c = fits _ (omega (arith, few_parts _ c.requires.0 c.args.j (omega (arith, c.requires.1.1.0, c.requires.1.1.1))))

pub overflow_mul-result-then-r-b : goal.overflow_mul-result-then-r-b
overflow_mul-result-then-r-b c =
    fits _ (omega (arith, few_runs _ c.requires.0 (c.args.b - c.args.s.r) (omega (arith, c.requires.1.1.0, c.requires.1.1.1))))

pub overflow_add-result : goal.overflow_add-result
overflow_add-result c =
    fits _
    (omega (
      arith,
      few_parts _ c.requires.0 c.args.j (omega (arith, c.requires.1.1.0, c.requires.1.1.1)),
      few_runs _ c.requires.0 (c.args.b - c.args.s.r) (omega (arith, c.requires.1.1.0, c.requires.1.1.1)),
    ))

pub returns-then-r-b : goal.returns-then-r-b
unfolding share_of
returns-then-r-b c =
    simp (prepared_run_length c.args.s c.requires.1.0, ne_eqb _ 0 (marked_some c.requires.1.0), le-ltb _ _ c.if-r-b.true)

pub overflow_mul-result-then-j-r : goal.overflow_mul-result-then-j-r
overflow_mul-result-then-j-r c =
    fits _ (omega (arith, new_product _ c.requires.0 c.args.j (omega (arith, c.requires.1.1.0, c.requires.1.1.1))))

pub overflow_mul-result-then-j-r-2 : goal.overflow_mul-result-then-j-r-2
overflow_mul-result-then-j-r-2 c = fits _ (omega (arith, few_runs _ c.requires.0 c.args.b (omega (arith, c.requires.1.1.0, c.requires.1.1.1))))

pub overflow_add-result-then-j-r : goal.overflow_add-result-then-j-r
overflow_add-result-then-j-r c =
    fits _
    (omega (
      arith,
      new_product _ c.requires.0 c.args.j (omega (arith, c.requires.1.1.0, c.requires.1.1.1)),
      few_runs _ c.requires.0 c.args.b (omega (arith, c.requires.1.1.0, c.requires.1.1.1)),
    ))

pub overflow_add-result-then-j-r-2 : goal.overflow_add-result-then-j-r-2
overflow_add-result-then-j-r-2 c =
    fits _
    (omega (
      arith,
      data_parts _ c.requires.0,
      new_product _ c.requires.0 c.args.j (omega (arith, c.requires.1.1.0, c.requires.1.1.1)),
      few_runs _ c.requires.0 c.args.b (omega (arith, c.requires.1.1.0, c.requires.1.1.1)),
    ))

pub returns-then-j-r : goal.returns-then-j-r
unfolding share_of
returns-then-j-r c =
    simp (
      prepared_run_length c.args.s c.requires.1.0,
      ne_eqb _ 0 (marked_some c.requires.1.0),
      lt-ltb _ _ c.if-r-b.false,
      lt-ltb _ _ c.if-j-r.true,
    )

pub overflow_mul-result-2 : goal.overflow_mul-result-2
overflow_mul-result-2 c =
    fits _ (omega (arith, new_product _ c.requires.0 c.args.b (omega (arith, c.requires.1.1.0, c.requires.1.1.1))))

pub overflow_mul-result-3 : goal.overflow_mul-result-3
overflow_mul-result-3 c = fits _ (omega (arith, few_runs _ c.requires.0 c.args.j (omega (arith, c.requires.1.1.0, c.requires.1.1.1))))

pub overflow_add-result-2 : goal.overflow_add-result-2
overflow_add-result-2 c =
    fits _
    (omega (
      arith,
      new_product _ c.requires.0 c.args.b (omega (arith, c.requires.1.1.0, c.requires.1.1.1)),
      few_runs _ c.requires.0 c.args.j (omega (arith, c.requires.1.1.0, c.requires.1.1.1)),
    ))

pub overflow_add-result-3 : goal.overflow_add-result-3
overflow_add-result-3 c =
    fits _
    (omega (
      arith,
      data_parts _ c.requires.0,
      new_product _ c.requires.0 c.args.b (omega (arith, c.requires.1.1.0, c.requires.1.1.1)),
      few_runs _ c.requires.0 c.args.j (omega (arith, c.requires.1.1.0, c.requires.1.1.1)),
    ))

pub overflow_mul-result-4 : goal.overflow_mul-result-4
overflow_mul-result-4 c = fits _ (omega (arith, few_parts _ c.requires.0 c.args.b (omega (arith, c.requires.1.1.0, c.requires.1.1.1))))

pub overflow_mul-result-5 : goal.overflow_mul-result-5
overflow_mul-result-5 c =
    fits _ (omega (arith, few_runs _ c.requires.0 (c.args.j - c.args.s.r) (omega (arith, c.requires.1.1.0, c.requires.1.1.1))))

pub overflow_add-result-4 : goal.overflow_add-result-4
overflow_add-result-4 c =
    fits _
    (omega (
      arith,
      few_parts _ c.requires.0 c.args.b (omega (arith, c.requires.1.1.0, c.requires.1.1.1)),
      few_runs _ c.requires.0 (c.args.j - c.args.s.r) (omega (arith, c.requires.1.1.0, c.requires.1.1.1)),
    ))

pub returns : goal.returns
unfolding share_of
returns c =
    simp (
      prepared_run_length c.args.s c.requires.1.0,
      ne_eqb _ 0 (marked_some c.requires.1.0),
      lt-ltb _ _ c.if-r-b.false,
      le-ltb _ _ c.if-j-r.false,
    )
