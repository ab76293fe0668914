-- `settle` meets its contract.
use mathlib.Core.Path.{refl, sym, ◌∙◌}
use mathlib.Core.Bool.{true≢false}
use native.Mathlib.Omega.{arith}
use Rattle.stripe.proofs.Allowed.{allowed}
use Rattle.mending.proofs.Settled.{settled_start, settled_all}
use Rattle.mending.proofs.settle.settle.Goals as goal

pub loop-j-init : goal.loop-j-init
loop-j-init c =
    (refl, λ xs b t. settled_start c.args.s c.args.p xs _ (allowed c.args.s c.requires.shape) t)

pub settle_row-requires : goal.settle_row-requires
settle_row-requires c =
    let w = c.requires in
    let t = c.loop-j.invariant in
    (record { shape = w.shape; posed = w.posed; long = t.0 ∙ w.long }, c.loop-j-test.true)

pub shape_of-slots-then-not-settle_row : goal.shape_of-slots-then-not-settle_row
shape_of-slots-then-not-settle_row c = c.settle_row.ensures.long ∙ c.loop-j.invariant.0

pub returns-then-not-settle_row : goal.returns-then-not-settle_row
returns-then-not-settle_row c =
    let k = c.settle_row.ensures in
    let t = c.loop-j.invariant in
    record {
      long = k.long ∙ t.0;
      so = λ xs b z e. absurd (true≢false (sym e));
      not_so = λ xs b z e. k.not_so xs b (t.1 xs b z) (c.if-not-settle_row.true);
    }

pub loop-j-preserved : goal.loop-j-preserved
loop-j-preserved c =
    let k = c.settle_row.ensures in
    let t = c.loop-j.invariant in
    (k.long ∙ t.0, λ xs b z. k.so xs b (t.1 xs b z) (c.if-not-settle_row.false))

pub shape_of-slots : goal.shape_of-slots
shape_of-slots c = c.loop-j.invariant.0

pub returns : goal.returns
returns c =
    let t = c.loop-j.invariant in
    record {
      long = t.0;
      so = λ xs b z e. settled_all c.args.s c.args.p xs _ _ (omega arith) c.loop-j-test.false (t.1 xs b z);
      not_so = λ xs b z e. absurd (true≢false e);
    }
