-- `take_runs` meets its contract: after i turns the i first runs are taken in.
use mathlib.Core.Path.{sym, subst}
use Prim.Native.Nat.{ℕ, ◌*◌, ◌/◌, ◌≤◌}
use native.Mathlib.Nat.{mul-le-mul}
use native.Mathlib.Omega.{arith}
use lib.ListN.{length}
use Rattle.stripe.proofs.Allowed.{allowed}
use Rattle.stripe.specs.Shape.{most_rows}
use Rattle.lanes.proofs.Parts.{part_length}
use Rattle.plan.proofs.Foldable.{new_few}
use Rattle.plan.proofs.Bounds.{fits, data_small}
use Rattle.fold.proofs.Filling.{take_start, take_done, row_lt, number_lt, cut_in, cut_within, cut_turn}
use Rattle.fold.proofs.runs.take_runs.Goals as goal

pub overflow_mul-all : goal.overflow_mul-all
overflow_mul-all c =
    let a = allowed _ c.requires.0.shape in
    let r = subst (λ (x : ℕ). x ≤ most_rows) (sym c.runs-cut.ensures) a.runs_most in
    fits _ (omega (arith, mul-le-mul {n₂ = most_rows} (new_few c.args.s c.args.f c.requires.0.shape c.requires.0.new c.requires.0.rows) r))

pub loop-i-init : goal.loop-i-init
loop-i-init c =
    take_start c.args.s c.args.f c.requires.0 c.args.first c.args.d.now c.args.rows.now c.args.parity.now c.requires.1.1.0
    c.requires.1.1.1

pub overflow_mul-a : goal.overflow_mul-a
overflow_mul-a c =
    let ce = c.runs-cut.ensures in
    let qe = c.run_length-q.ensures in
    let l = c.loop-i in
    let t = c.loop-i-test.true in
    fits _ (omega (
      arith,
      cut_in c.args.s c.args.f c.requires.0 c.args.first c.args.d.now c.args.rows.now c.args.parity.now c.requires.1.1.0 _ _ ce qe
          l.i t (length l.parity) l.invariant.long,
    ))

pub overflow_add-e : goal.overflow_add-e
overflow_add-e c =
    let ce = c.runs-cut.ensures in
    let qe = c.run_length-q.ensures in
    let l = c.loop-i in
    let t = c.loop-i-test.true in
    fits _ (omega (
      arith,
      cut_in c.args.s c.args.f c.requires.0 c.args.first c.args.d.now c.args.rows.now c.args.parity.now c.requires.1.1.0 _ _ ce qe
          l.i t (length l.parity) l.invariant.long,
    ))

pub nonzero_div-j : goal.nonzero_div-j
nonzero_div-j c =
    let a = allowed _ c.requires.0.shape in
    omega (arith, a.runs_some, c.runs-cut.ensures)

pub nonzero_rem-i : goal.nonzero_rem-i
nonzero_rem-i c =
    let a = allowed _ c.requires.0.shape in
    omega (arith, a.runs_some, c.runs-cut.ensures)

pub share_of-share-requires : goal.share_of-share-requires
share_of-share-requires c =
    let ce = c.runs-cut.ensures in
    let qe = c.run_length-q.ensures in
    let l = c.loop-i in
    let t = c.loop-i-test.true in (
      c.requires.0.shape,
      (
        let w = new_few c.args.s c.args.f c.requires.0.shape c.requires.0.new c.requires.0.rows in
            omega (
              arith,
              row_lt c.args.s c.args.f c.requires.0 c.args.first c.args.d.now c.args.rows.now c.args.parity.now
                  c.requires.1.1.0 _ _ ce qe l.i t,
            ),
        number_lt c.args.s c.args.f c.requires.0 c.args.first c.args.d.now c.args.rows.now c.args.parity.now c.requires.1.1.0
            _ _ ce qe l.i t,
      ),
    )

pub slice_bounds-take_share-end : goal.slice_bounds-take_share-end
slice_bounds-take_share-end c =
    let ce = c.runs-cut.ensures in
    let qe = c.run_length-q.ensures in
    let l = c.loop-i in
    let t = c.loop-i-test.true in
    omega (
      arith,
      cut_in c.args.s c.args.f c.requires.0 c.args.first c.args.d.now c.args.rows.now c.args.parity.now c.requires.1.1.0 _ _ ce qe
          l.i t (length l.parity) l.invariant.long,
    )

pub overflow_mul-j : goal.overflow_mul-j
overflow_mul-j c =
    let ce = c.runs-cut.ensures in
    let qe = c.run_length-q.ensures in
    let l = c.loop-i in
    let t = c.loop-i-test.true in
    let w = new_few c.args.s c.args.f c.requires.0.shape c.requires.0.new c.requires.0.rows in
    let j = row_lt c.args.s c.args.f c.requires.0 c.args.first c.args.d.now c.args.rows.now c.args.parity.now c.requires.1.1.0 _ _
    ce qe l.i t in
    let h : l.i / c.runs-cut.result ≤ most_rows = omega (arith, j) in
    fits _ (omega (arith, mul-le-mul {n₂ = most_rows} h (data_small _ c.requires.0.shape)))

pub take_share-requires : goal.take_share-requires
take_share-requires c =
    let ce = c.runs-cut.ensures in
    let qe = c.run_length-q.ensures in
    let l = c.loop-i in
    let t = c.loop-i-test.true in
    cut_within c.args.s c.args.f c.requires.0 c.args.first c.args.d.now c.args.rows.now c.args.parity.now c.requires.1.1.0 _ _ ce
    qe l.i t _ _ _ _ c.share_of-share.ensures (part_length l.parity _ _ (cut_in c.args.s c.args.f c.requires.0 c.args.first
    c.args.d.now c.args.rows.now c.args.parity.now c.requires.1.1.0 _ _ ce qe l.i t (length l.parity) l.invariant.long))
    c.requires.1.0 c.requires.1.1.0.long

pub loop-i-preserved : goal.loop-i-preserved
loop-i-preserved c =
    let ce = c.runs-cut.ensures in
    let qe = c.run_length-q.ensures in
    let l = c.loop-i in
    let t = c.loop-i-test.true in
    cut_turn c.args.s c.args.f c.requires.0 c.args.first c.args.d.now c.args.rows.now c.args.parity.now c.requires.1.1.0 _ _ ce
    qe l.i t l.parity _ _ c.share_of-share.ensures l.invariant c.take_share.ensures

pub shape_of-parity : goal.shape_of-parity
shape_of-parity c = omega (arith, c.loop-i.invariant.long, c.requires.1.1.1)

pub returns : goal.returns
returns c =
    let ce = c.runs-cut.ensures in
    take_done c.args.s c.args.f c.requires.0 c.args.first c.args.d.now c.args.rows.now c.args.parity.now c.requires.1.1.0 _ _
    (subst (λ (x : ℕ). c.args.f * x ≤ c.loop-i.i) ce c.loop-i-test.false) c.loop-i.invariant
