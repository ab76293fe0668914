-- `settle_row` meets its contract.
use Prim.Native.Nat.{ℕ, ◌*◌, ◌≤◌}
use mathlib.Core.Path.{sym, subst}
use native.Mathlib.Nat.{add-zero, mul-le-mul}
use native.Mathlib.Omega.{arith}
use lib.ListN.{length}
use Rattle.stripe.proofs.Allowed.{allowed}
use Rattle.stripe.proofs.Errors.{points}
use Rattle.stripe.specs.Shape.{most_rows, most_length, most_rows_length}
use Rattle.mending.specs.Slots.{Sources, Gathered}
use Rattle.mending.specs.System.{less, gone}
use Rattle.mending.proofs.Posed.{few_rows, first_few, step_few}
use Rattle.mending.proofs.Added.{slot_ends}
use Rattle.mending.proofs.Settled.{skip_settles, finish_sources, row_settles}
use Rattle.mending.proofs.settle.settle_row.Goals as goal

pub solves-requires : goal.solves-requires
solves-requires c =
    let a = c.args in
    let w = c.requires.0.posed in
    let f = allowed a.s c.requires.0.shape in
    (omega (arith, w.many, w.few), (omega (arith, first_few a.s f a.p w), omega (arith, step_few a.s f a.p w)))

pub returns-then-solves : goal.returns-then-solves
returns-then-solves c =
    skip_settles c.args.s c.args.p c.args.j _ (c.solves.ensures.so c.if-solves.true)

pub overflow_mul-j : goal.overflow_mul-j
overflow_mul-j c =
    let w = c.requires in
    let f = allowed c.args.s w.0.shape in
    let few = few_rows c.args.s f c.args.p w.0.posed in
    let most : c.args.j * c.args.s.l ≤ most_rows_length = mul-le-mul {n₂ = most_rows} {m₂ = most_length} (omega (arith, w.1, few)) f.length_most in
    omega arith

pub add_row-requires : goal.add_row-requires
add_row-requires c =
    let a = c.args in
    let w = c.requires in
    let f = allowed a.s w.0.shape in
    let o = c.solves.ensures.not_so c.if-solves.false in (
      w.0,
      (
        omega arith,
        (
          omega (arith, w.1, few_rows a.s f a.p w.0.posed),
          (
            omega arith,
            subst (λ (z : ℕ). Sources a.p.count (a.j * a.s.l) z (a.p.step * a.s.l) a.s.l (length a.slots.now)) (sym (add-zero _))
                (finish_sources a.s f a.p w.0.posed a.j w.1 o _ w.0.long),
          ),
        ),
      ),
    )

pub clean-requires : goal.clean-requires
clean-requires c =
    let a = c.args in
    let w = c.requires in
    let f = allowed a.s w.0.shape in (
      omega (arith, w.0.posed.few),
      (
        f.data_most,
        (
          omega (arith, w.1, few_rows a.s f a.p w.0.posed),
          omega (arith, slot_ends a.s f a.p w.0.posed a.j w.1, c.add_row.ensures.long, w.0.long),
        ),
      ),
    )

pub returns : goal.returns
returns c =
    let solves = c.solves in
    let add_row = c.add_row in
    let a = c.args in
    let w = c.requires in
    row_settles a.s (allowed a.s w.0.shape) a.p w.0.posed a.j w.1
    (solves.ensures.not_so c.if-solves.false) a.slots.now add_row.new.slots
    (subst (λ (z : ℕ). Gathered (points a.j (less a.p.pivot (gone a.s a.p))) (a.j * a.s.l) z (a.p.step * a.s.l) a.s.l a.slots.now
    add_row.new.slots) (add-zero _) add_row.ensures)
    c.clean.result (λ i. (c.slice_known-2-1.given i).fits) c.clean.ensures
