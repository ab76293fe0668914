-- `restore` meets its contract: by check equations, or by rows with the same positions in the smaller record.
use Prim.Native.Nat.{ℕ}
use mathlib.Core.Path.{refl, subst}
use mathlib.Core.List.{List}
use native.Mathlib.Omega.{arith}
use Rattle.stripe.specs.Refusal.{refusal_of}
use Rattle.mending.specs.Restore.{Restores}
use Rattle.mending.proofs.Smaller.{few_list_lem, ready_rows}
use Rattle.mending.proofs.restore.Goals as goal

pub restore_in-requires : goal.restore_in-requires
restore_in-requires c = (
  ready_rows c.args.s c.args.lost _ c.few_of-w.ensures c.requires.0 c.if-s-gt-MOST_ROWS.false,
  (c.requires.1, (refl, (c.if-n-le-SHORT.true, omega arith))),
)

pub returns-then-n-le-SHORT : goal.returns-then-n-le-SHORT
returns-then-n-le-SHORT c =
    let done = c.restore_in in
    let ready = c.requires.0 in
    let rows = c.if-s-gt-MOST_ROWS.false in
    subst (λ (es : List ℕ). Restores c.args.s es c.args.stripe.now (refusal_of done.result) done.new.stripe)
    (few_list_lem c.args.lost _ c.few_of-w.ensures ready.room (omega (arith, ready.few, rows)))
    done.ensures

pub restore_longer-requires : goal.restore_longer-requires
restore_longer-requires c = (
  ready_rows c.args.s c.args.lost _ c.few_of-w.ensures c.requires.0 c.if-s-gt-MOST_ROWS.false,
  (c.requires.1, refl),
)

pub returns : goal.returns
returns c =
    let done = c.restore_longer in
    let ready = c.requires.0 in
    let rows = c.if-s-gt-MOST_ROWS.false in
    subst (λ (es : List ℕ). Restores c.args.s es c.args.stripe.now (refusal_of done.result) done.new.stripe)
    (few_list_lem c.args.lost _ c.few_of-w.ensures ready.room (omega (arith, ready.few, rows)))
    done.ensures
